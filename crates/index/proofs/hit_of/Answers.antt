-- `hit_of`: an edge, or none. Assumes nothing.
use Rattle.index.proofs.Casts.{cast_hit, cast_miss}
use Rattle.index.proofs.hit_of.Goals as goal

pub returns-in-Some : goal.returns-in-Some
returns-in-Some c = cast_hit c.args.b _ c.in-Some.is

pub returns-in-None : goal.returns-in-None
returns-in-None c = cast_miss c.args.b c.in-None.is
