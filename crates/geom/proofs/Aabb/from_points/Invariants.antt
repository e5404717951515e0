-- `geom::Aabb::from_points` meets its contract. Assumes nothing.
use Rattle.geom.specs.Box.{box_up_to}
use Rattle.std.proofs.Common.{◌≡◌}
use Rattle.geom.proofs.Aabb.from_points.Given as goal

abbrev pub invariant-loop-i : goal.invariant-loop-i
invariant-loop-i l = l.b ≡ box_up_to l.points l.i
