-- `geom::signed_area` meets its contract. Assumes nothing.
use Rattle.geom.specs.Ring.{area_up_to}
use Rattle.std.proofs.Common.{◌≡◌}
use Rattle.geom.proofs.signed_area.Given as goal

abbrev pub invariant-loop-i : goal.invariant-loop-i
invariant-loop-i l = l.s ≡ area_up_to l.poly l.i
