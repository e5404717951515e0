-- `extent::side` meets its contract. Assumes nothing.
use Rattle.extent.specs.Extent.{side_of}
use Rattle.extent.proofs.side.Goals as goal

pub returns : goal.returns
unfolding side_of
returns c = simp (← c.width.ensures, ← c.height.ensures, ← c.max.ensures)
