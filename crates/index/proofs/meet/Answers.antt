-- `meet`: a nearer hit, one as near, a farther one, none. Assumes nothing.
use Rattle.index.proofs.Ways.{meet_hit, meet_tie, meet_far, meet_past}
use Rattle.index.proofs.meet.Goals as goal

pub returns-in-Some : goal.returns-in-Some
returns-in-Some c = meet_hit _ _ _ c.ray_segment_within.ensures c.in-Some.is c.if-t-b.true c.number_at.ensures

pub returns-in-Some-2 : goal.returns-in-Some-2
returns-in-Some-2 c = meet_tie _ _ _ c.ray_segment_within.ensures c.in-Some.is c.if-t-b.false c.if-t-b-2.true c.number_at-in-Some-2.ensures c.lower.ensures

pub returns-in_default : goal.returns-in_default
returns-in_default c = meet_far _ _ _ c.ray_segment_within.ensures c.in-Some.is c.if-t-b.false c.if-t-b-2.false

pub returns-in_default-2 : goal.returns-in_default-2
returns-in_default-2 c = meet_past _ _ _ c.ray_segment_within.ensures c.in_default.is
