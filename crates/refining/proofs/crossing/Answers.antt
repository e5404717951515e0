-- `crossing`: the angle, and a turn more where it lies before the first end.
use Rattle.refining.proofs.Ways.{crossing_past, crossing_there}
use Rattle.refining.proofs.crossing.Goals as goal

pub returns-then-angle-from : goal.returns-then-angle-from
returns-then-angle-from c = crossing_past _ _ _ c.sub.ensures c.angle.ensures c.normalize_angle-angle.ensures c.if-angle-from.true

pub returns : goal.returns
returns c = crossing_there _ _ _ c.sub.ensures c.angle.ensures c.normalize_angle-angle.ensures c.if-angle-from.false
