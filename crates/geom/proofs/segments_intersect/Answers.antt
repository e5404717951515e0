-- `geom::segments_intersect` meets its contract. Assumes nothing.
use Rattle.geom.specs.Segment.{segments_intersect_of}
use Rattle.geom.proofs.segments_intersect.Goals as goal

pub returns : goal.returns
unfolding segments_intersect_of
returns c = simp (← c.segment_intersection.ensures, c.is_some.ensures)
