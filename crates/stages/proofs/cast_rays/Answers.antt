-- `cast_rays`: over, or the index and the rays. Assumes nothing.
use Rattle.stages.proofs.Casts.{ready, build_over, sampling, cast_over, cast_done}
use native.Mathlib.Omega.{arith}
use mathlib.Core.Path.{refl, ◌∙◌}
use Rattle.stages.proofs.cast_rays.Goals as goal

pub build-b-requires : goal.build-b-requires
build-b-requires c = ready c.args.mode _ c.args.view _ c.args.events _ _ c.requires

pub shape_of-words-then-b : goal.shape_of-words-then-b
shape_of-words-then-b c = c.build-b.auto.words

pub returns-then-b : goal.returns-then-b
returns-then-b c = build_over c.args.mode _ c.args.view _ _ _ _ c.requires _ _ _ refl c.build-b.ensures c.if-b.true

pub overflow_cast-events : goal.overflow_cast-events
overflow_cast-events c = omega (arith, c.requires.events_fit)

pub sample_rays-r-requires : goal.sample_rays-r-requires
sample_rays-r-requires c = sampling c.args.mode _ c.args.view _ _ _ _ c.requires _ _ _ refl c.build-b.ensures c.if-b.false _ refl _ refl

pub shape_of-floats : goal.shape_of-floats
shape_of-floats c = c.sample_rays-r.auto.floats

pub shape_of-words : goal.shape_of-words
shape_of-words c = c.sample_rays-r.auto.words ∙ c.build-b.auto.words

pub returns-then-r : goal.returns-then-r
returns-then-r c = cast_over c.args.mode _ c.args.view _ _ _ _ c.requires _ _ _ refl c.build-b.ensures c.if-b.false _ refl _ refl _ _ _ c.sample_rays-r.ensures c.if-r.true

pub returns : goal.returns
returns c = cast_done c.args.mode _ c.args.view _ _ _ _ c.requires _ _ _ refl c.build-b.ensures c.if-b.false _ refl _ refl _ _ _ c.sample_rays-r.ensures c.if-r.false
