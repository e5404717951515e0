-- `geom::ray_segment_within` meets its contract. Assumes nothing.
use Rattle.geom.specs.Segment.{ray_segment_within}
use Rattle.geom.proofs.ray_segment_within.Goals as goal

pub returns-then-is_flat : goal.returns-then-is_flat
unfolding ray_segment_within
returns-then-is_flat c = simp (← c.sub-e.ensures, ← c.cross-denom.ensures, ← c.is_flat.ensures, c.if-is_flat.true)

pub returns-then-t-slack : goal.returns-then-t-slack
unfolding ray_segment_within
returns-then-t-slack c = simp (← c.sub-e.ensures, ← c.cross-denom.ensures, ← c.is_flat.ensures, c.if-is_flat.false, ← c.sub-ao.ensures, ← c.cross.ensures, ← c.cross-2.ensures, c.if-t-slack.true)

pub returns : goal.returns
unfolding ray_segment_within
returns c = simp (← c.sub-e.ensures, ← c.cross-denom.ensures, ← c.is_flat.ensures, c.if-is_flat.false, ← c.sub-ao.ensures, ← c.cross.ensures, ← c.cross-2.ensures, c.if-t-slack.false)
