-- `turn_at`: where the edges meet, and whether that lies between the ends.
use Rattle.refining.proofs.Ways.{turn_nowhere, turn_outside, turn_between}
use Rattle.refining.proofs.turn_at.Goals as goal

pub returns-in_default : goal.returns-in_default
returns-in_default c = turn_nowhere _ _ _ c.edge-ea.ensures c.edge-eb.ensures c.segment_intersection.ensures c.in_default.is

pub returns-then-angle-a : goal.returns-then-angle-a
returns-then-angle-a c = turn_between _ _ _ c.edge-ea.ensures c.edge-eb.ensures c.segment_intersection.ensures c.in-Some.is c.crossing-angle.ensures c.if-angle-a.true c.look.ensures

pub returns : goal.returns
returns c = turn_outside _ _ _ c.edge-ea.ensures c.edge-eb.ensures c.segment_intersection.ensures c.in-Some.is c.crossing-angle.ensures c.if-angle-a.false
