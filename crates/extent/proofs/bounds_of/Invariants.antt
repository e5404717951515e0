-- `extent::bounds_of` meets its contract. Assumes nothing.
use Rattle.extent.specs.Extent.{bounds_of}
use Rattle.grid.specs.Boxes.{box_at}
use Rattle.lists.specs.Lists.{listed}
use Rattle.std.proofs.Common.{◌≡◌}
use Rattle.extent.proofs.bounds_of.Given as goal

abbrev pub invariant-loop-i : goal.invariant-loop-i
invariant-loop-i l = l.b ≡ bounds_of l.width l.height (listed (box_at l.boxes) l.i)
