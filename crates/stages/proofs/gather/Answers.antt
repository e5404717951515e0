-- `gather`: over, touching, or the edges and the merged events. Assumes nothing.
use Rattle.stages.proofs.Gathers.{fit_kept, scan_over, scan_touch, events_few, merge_over, merge_done}
use native.Mathlib.Omega.{arith}
use mathlib.Core.Path.{refl, ◌∙◌}
use Rattle.stages.proofs.gather.Goals as goal

pub shape_of-floats-then-f : goal.shape_of-floats-then-f
shape_of-floats-then-f c = c.front_edges-f.auto.floats

pub shape_of-words-then-f : goal.shape_of-words-then-f
shape_of-words-then-f c = c.front_edges-f.auto.words

pub returns-then-f : goal.returns-then-f
returns-then-f c = scan_over _ c.args.view _ _ _ _ _ _ c.front_edges-f.ensures c.if-f.true

pub shape_of-floats-then-f-2 : goal.shape_of-floats-then-f-2
shape_of-floats-then-f-2 c = c.front_edges-f.auto.floats

pub shape_of-words-then-f-2 : goal.shape_of-words-then-f-2
shape_of-words-then-f-2 c = c.front_edges-f.auto.words

pub returns-then-f-2 : goal.returns-then-f-2
returns-then-f-2 c = scan_touch _ c.args.view _ _ _ _ _ _ c.front_edges-f.ensures c.if-f.false c.if-f-2.true

pub overflow_cast-f : goal.overflow_cast-f
overflow_cast-f c = omega (arith, events_few _ c.args.view _ _ _ _ _ _ c.front_edges-f.ensures c.if-f.false, c.well_formed.0)

pub merge_events-m-requires : goal.merge_events-m-requires
merge_events-m-requires c = (fit_kept _ _ c.front_edges-f.ensures.floats_only.long c.front_edges-f.ensures.words_only.long c.requires.fit, events_few _ c.args.view _ _ _ _ _ _ c.front_edges-f.ensures c.if-f.false)

pub shape_of-floats-then-m : goal.shape_of-floats-then-m
shape_of-floats-then-m c = c.merge_events-m.auto.floats ∙ c.front_edges-f.auto.floats

pub shape_of-words-then-m : goal.shape_of-words-then-m
shape_of-words-then-m c = c.merge_events-m.auto.words ∙ c.front_edges-f.auto.words

pub returns-then-m : goal.returns-then-m
returns-then-m c = merge_over _ c.args.view _ _ _ _ _ _ c.front_edges-f.ensures c.if-f.false c.if-f-2.false _ c.front_edges-f.result.events _ _ refl c.merge_events-m.ensures.merges c.merge_events-m.ensures.only c.if-m.true

pub shape_of-floats : goal.shape_of-floats
shape_of-floats c = c.merge_events-m.auto.floats ∙ c.front_edges-f.auto.floats

pub shape_of-words : goal.shape_of-words
shape_of-words c = c.merge_events-m.auto.words ∙ c.front_edges-f.auto.words

pub returns : goal.returns
returns c = merge_done _ c.args.view _ _ _ _ _ _ c.front_edges-f.ensures c.if-f.false c.if-f-2.false _ c.front_edges-f.result.events _ _ refl c.merge_events-m.ensures.merges c.merge_events-m.ensures.only c.requires.fit c.if-m.false
