-- `extent::add_side` meets its contract. Assumes nothing.
use Rattle.extent.specs.Extent.{add_side_of}
use Rattle.extent.proofs.add_side.Goals as goal

pub returns-then-is_empty : goal.returns-then-is_empty
unfolding add_side_of
returns-then-is_empty c = simp (← c.is_empty.ensures, c.if-is_empty.true)

pub returns : goal.returns
unfolding add_side_of
returns c = simp (← c.is_empty.ensures, c.if-is_empty.false, ← c.side.ensures)
