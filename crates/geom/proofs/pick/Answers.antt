-- `geom::pick` meets its contract. Assumes nothing.
use Rattle.geom.specs.Segment.{pick_of}
use Rattle.geom.proofs.pick.Goals as goal

pub returns-then-t : goal.returns-then-t
unfolding pick_of
returns-then-t c = simp (c.if-t.true, ← c.mul.ensures, ← c.add.ensures)

pub returns : goal.returns
unfolding pick_of
returns c = simp c.if-t.false
