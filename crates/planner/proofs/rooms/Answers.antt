-- `rooms`: the entries of document 01. Assumes nothing.
use mathlib.Core.Path.{refl}
use Rattle.planner.specs.Rooms.{rooms}
use Rattle.planner.proofs.rooms.Goals as goal

pub returns : goal.returns
unfolding rooms
returns c = refl
