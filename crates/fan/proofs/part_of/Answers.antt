-- `fan::part_of`: every field of the front edge. Assumes nothing.
use Rattle.fan.specs.Sides.{part_of}
use Rattle.fan.proofs.part_of.Goals as goal

pub returns : goal.returns
unfolding part_of
returns c = simp (← c.point_segment_distance.ensures, ← c.normalize_angle.ensures)
