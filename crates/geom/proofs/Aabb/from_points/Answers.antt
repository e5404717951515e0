-- `geom::Aabb::from_points` meets its contract. Assumes nothing.
use Rattle.geom.specs.Box.{box_up_to, from_points_of}
use Rattle.std.proofs.Common.{ap, ◌∙◌, le_antisymm, add-one, arith}
use Rattle.geom.proofs.Aabb.from_points.Goals as goal

pub loop-i-init : goal.loop-i-init
unfolding box_up_to
loop-i-init c = c.empty-b.ensures

pub corner-requires : goal.corner-requires
corner-requires c = omega arith

pub loop-i-preserved : goal.loop-i-preserved
unfolding box_up_to
loop-i-preserved c = simp (add-one, c.include-b.ensures, c.corner.ensures, c.loop-i.invariant)

pub returns : goal.returns
unfolding from_points_of
returns c = c.loop-i.invariant ∙ ap (box_up_to _) (le_antisymm (omega arith) c.loop-i-test.false)
