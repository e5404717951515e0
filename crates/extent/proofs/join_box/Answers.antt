-- `extent::join_box` meets its contract. Assumes nothing.
use Rattle.extent.specs.Extent.{join_box_of}
use Rattle.extent.proofs.join_box.Goals as goal

pub returns-then-is_empty : goal.returns-then-is_empty
unfolding join_box_of
returns-then-is_empty c = simp (← c.is_empty.ensures, c.if-is_empty.true)

pub returns : goal.returns
unfolding join_box_of
returns c = simp (← c.is_empty.ensures, c.if-is_empty.false, ← c.union.ensures)
