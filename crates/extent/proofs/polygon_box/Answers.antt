-- `extent::polygon_box` meets its contract. Assumes nothing.
use Rattle.std.proofs.Common.{le-ltb, lt-ltb}
use Rattle.extent.specs.Boxes.{polygon_box_of}
use Rattle.extent.proofs.polygon_box.Goals as goal

pub returns-then-points-lt3 : goal.returns-then-points-lt3
unfolding polygon_box_of
returns-then-points-lt3 c = simp (lt-ltb _ _ c.if-points-lt3.true, c.empty.ensures)

pub returns : goal.returns
unfolding polygon_box_of
returns c = simp (le-ltb _ _ c.if-points-lt3.false, c.from_points.ensures)
