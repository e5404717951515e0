-- `cast_within`: what the walk comes to. Assumes nothing.
use Rattle.std.proofs.Common.{◌∙◌}
use Rattle.index.proofs.Casts.{cast_is}
use Rattle.index.proofs.cast_within.Goals as goal

pub returns : goal.returns
returns c = c.hit_of.ensures ∙ cast_is c.args.slack c.args.k c.args.x c.args.floats.now c.args.words.now c.args.o c.args.angle c.args.dir c.args.max _ _ _ c.walk_at-w.ensures
