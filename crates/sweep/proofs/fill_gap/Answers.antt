-- `fill_gap`: each way by what the two samples hit.
use Rattle.refining.proofs.Halves.{stay}
use Rattle.sweep.proofs.Ways.{gap_leave, gap_same, gap_close, gap_refine, gap_enter, gap_arc, done_pushed}
use Rattle.sweep.proofs.fill_gap.Goals as goal

pub refine-requires : goal.refine-requires
refine-requires c = c.requires

pub arc-requires : goal.arc-requires
arc-requires c = c.requires.points

pub returns-in-Some-Some : goal.returns-in-Some-Some
returns-in-Some-Some c = record { result_after = gap_refine _ _ _ _ _ _ _ c.in-Some-Some.is-0 c.in-Some-Some.is-1 c.if-first-last.true c.if-gap.true c.refine.ensures.result_after; done = c.refine.ensures.done }

pub returns-in-None-None : goal.returns-in-None-None
returns-in-None-None c = record { result_after = gap_arc _ _ _ _ _ _ _ c.in-None-None.is-0 c.in-None-None.is-1 c.steps_of.ensures c.arc.ensures.result_after; done = done_pushed c.requires c.arc.ensures.pushed }

pub returns-in_default : goal.returns-in_default
returns-in_default c = record { result_after = gap_close _ _ _ _ _ _ _ c.in-Some-Some.is-0 c.in-Some-Some.is-1 c.if-first-last.true c.if-gap.false; done = stay c.requires }

pub returns-in_default-2 : goal.returns-in_default-2
returns-in_default-2 c = record { result_after = gap_same _ _ _ _ _ _ _ c.in-Some-Some.is-0 c.in-Some-Some.is-1 c.if-first-last.false; done = stay c.requires }

pub returns-in_default-3 : goal.returns-in_default-3
returns-in_default-3 c = record { result_after = gap_leave _ _ _ _ _ _ _ c.in_default.is-0 c.in_default.is-1; done = stay c.requires }

pub returns-in_default-4 : goal.returns-in_default-4
returns-in_default-4 c = record { result_after = gap_enter _ _ _ _ _ _ _ c.in_default.is-0 c.in_default.is-1; done = stay c.requires }
