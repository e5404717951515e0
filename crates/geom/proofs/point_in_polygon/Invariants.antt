-- `geom::point_in_polygon` meets its contract. Assumes nothing.
use Rattle.geom.specs.Ring.{inside_up_to, corner_before}
use Rattle.std.proofs.Common.{◌≡◌}
use Rattle.geom.specs.Box.{corner_of}
use Rattle.geom.proofs.point_in_polygon.Given as goal

abbrev pub invariant-loop-i : goal.invariant-loop-i
invariant-loop-i l = (l.inside ≡ inside_up_to l.p l.poly l.i) × (l.b ≡ corner_of l.poly (corner_before l.n l.i))
