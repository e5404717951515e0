-- `has_room`: one comparison for each table. Assumes nothing.
use mathlib.Core.Path.{refl}
use Rattle.build.specs.Refusals.{has_room}
use Rattle.build.proofs.has_room.Goals as goal

pub returns : goal.returns
unfolding has_room
returns c = refl
