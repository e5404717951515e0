-- `area_of`: the area of the loaded points grows by one edge a turn. Assumes nothing.
use mathlib.Core.Path.{◌≡◌}
use Rattle.geom.specs.Ring.{area_up_to}
use Rattle.build.specs.Stored.{given_at}
use Rattle.build.proofs.area_of.Given as goal

abbrev pub invariant-loop-i : goal.invariant-loop-i
invariant-loop-i l = l.s ≡ area_up_to (given_at l.given l.first l.len) l.i
