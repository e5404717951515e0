-- `geom::ray_segment` meets its contract. Assumes nothing.
use Rattle.geom.specs.Segment.{ray_segment_of}
use Rattle.geom.proofs.ray_segment.Goals as goal

pub returns : goal.returns
unfolding ray_segment_of
returns c = simp (← c.ray_segment_within.ensures)
