-- `geom::segment_circle_points` meets its contract. Assumes nothing.
use Rattle.geom.specs.Segment.{segment_circle_points_of}
use Rattle.geom.proofs.segment_circle_points.Goals as goal

pub returns-then-qa : goal.returns-then-qa
unfolding segment_circle_points_of
returns-then-qa c = simp (← c.sub-d.ensures, ← c.sub-f.ensures, ← c.length_sq-qa.ensures, c.if-qa.true)

pub returns-then-disc : goal.returns-then-disc
unfolding segment_circle_points_of
returns-then-disc c = simp (← c.sub-d.ensures, ← c.sub-f.ensures, ← c.length_sq-qa.ensures, c.if-qa.false, ← c.dot-qb.ensures, ← c.length_sq.ensures, c.if-disc.true)

pub returns : goal.returns
unfolding segment_circle_points_of
returns c = simp (← c.sub-d.ensures, ← c.sub-f.ensures, ← c.length_sq-qa.ensures, c.if-qa.false, ← c.dot-qb.ensures, ← c.length_sq.ensures, c.if-disc.false, ← c.sqrt-sq.ensures, ← c.pick.ensures, ← c.pick-2.ensures)
