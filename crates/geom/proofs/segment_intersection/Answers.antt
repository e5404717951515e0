-- `geom::segment_intersection` meets its contract. Assumes nothing.
use Rattle.geom.specs.Segment.{segment_intersection_of}
use Rattle.geom.proofs.segment_intersection.Goals as goal

pub returns-then-is_flat : goal.returns-then-is_flat
unfolding segment_intersection_of
returns-then-is_flat c = simp (← c.sub-r.ensures, ← c.sub-s.ensures, ← c.cross-denom.ensures, ← c.is_flat.ensures, c.if-is_flat.true)

pub returns-then-t-u : goal.returns-then-t-u
unfolding segment_intersection_of
returns-then-t-u c = simp (← c.sub-r.ensures, ← c.sub-s.ensures, ← c.cross-denom.ensures, ← c.is_flat.ensures, c.if-is_flat.false, ← c.sub-qp.ensures, ← c.cross.ensures, ← c.cross-2.ensures, c.if-t-u.true, ← c.mul.ensures, ← c.add.ensures)

pub returns : goal.returns
unfolding segment_intersection_of
returns c = simp (← c.sub-r.ensures, ← c.sub-s.ensures, ← c.cross-denom.ensures, ← c.is_flat.ensures, c.if-is_flat.false, ← c.sub-qp.ensures, ← c.cross.ensures, ← c.cross-2.ensures, c.if-t-u.false)
