-- `geom::point_segment_distance` meets its contract. Assumes nothing.
use Rattle.geom.specs.Segment.{point_segment_distance_of}
use Rattle.geom.proofs.point_segment_distance.Goals as goal

pub returns : goal.returns
unfolding point_segment_distance_of
returns c = simp (← c.sub-d.ensures, ← c.sub.ensures, ← c.nearest_share-t.ensures, ← c.mul.ensures, ← c.add.ensures, ← c.distance.ensures)
