-- `cast_one`: the cast along the sample's angle, written with its direction and its tie. Assumes nothing.
use mathlib.Core.Path.{◌∙◌}
use Rattle.geom.specs.Constants.{nano}
use Rattle.index.specs.Casting.{cast_of}
use Rattle.index.proofs.Casts.{cast_is, tie_is}
use Rattle.rays.proofs.Answers.{answer_put}
use native.Mathlib.Omega.{arith}
use Rattle.rays.proofs.cast_one.Goals as goal

pub put_hit-requires : goal.put_hit-requires
put_hit-requires c = c.requires

pub put_dir-requires : goal.put_dir-requires
put_dir-requires c = (omega (arith, c.put_hit.ensures.put.floats.long, c.requires.fit.floats_fit), c.requires.below)

pub shape_of-floats : goal.shape_of-floats
shape_of-floats c = c.put_dir.ensures.floats.long ∙ c.put_hit.ensures.put.floats.long

pub shape_of-words : goal.shape_of-words
shape_of-words c = c.put_hit.ensures.put.words.long

pub returns : goal.returns
unfolding cast_of
returns c =
    answer_put c.args.k c.args.view c.args.x c.args.i c.args.floats.now c.args.words.now c.requires.below c.sample_at-s.result c.sample_at-s.ensures c.from_angle-dir.result c.from_angle-dir.ensures c.hit_of.result
    (c.hit_of.ensures ∙ cast_is nano c.args.k c.args.x c.args.floats.now c.args.words.now c.args.view.o c.sample_at-s.result.angle c.from_angle-dir.result c.args.view.r _ _ _ c.walk_at-w.ensures)
    c.walk_at-w.result.best.tied (tie_is c.args.k c.args.x c.args.floats.now c.args.words.now c.args.view.o c.sample_at-s.result.angle c.from_angle-dir.result c.args.view.r c.walk_at-w.ensures)
    c.put_hit.new.floats c.put_hit.new.words c.put_hit.ensures c.put_dir.new.floats c.put_dir.ensures
