-- `look`: each way by what is hit at the crossing's angle.
use Rattle.refining.proofs.Ways.{look_miss, look_first, look_second, look_hidden, look_behind}
use Rattle.refining.proofs.look.Goals as goal

pub returns-in-Some : goal.returns-in-Some
returns-in-Some c = look_hidden _ _ _ _ _ _ c.cast_at-cast.ensures c.in-Some.is c.if-hit-a.true c.if-hit-b.true c.distance.ensures c.is_before.ensures c.if-is_before.true c.point.ensures

pub returns-in_default : goal.returns-in_default
returns-in_default c = look_behind _ _ _ _ _ _ c.cast_at-cast.ensures c.in-Some.is c.if-hit-a.true c.if-hit-b.true c.distance.ensures c.is_before.ensures c.if-is_before.false

pub returns-in_default-2 : goal.returns-in_default-2
returns-in_default-2 c = look_second _ _ _ _ _ _ c.cast_at-cast.ensures c.in-Some.is c.if-hit-a.true c.if-hit-b.false

pub returns-in_default-3 : goal.returns-in_default-3
returns-in_default-3 c = look_first _ _ _ _ _ _ c.cast_at-cast.ensures c.in-Some.is c.if-hit-a.false

pub returns-in_default-4 : goal.returns-in_default-4
returns-in_default-4 c = look_miss _ _ _ _ _ _ c.cast_at-cast.ensures c.in_default.is
