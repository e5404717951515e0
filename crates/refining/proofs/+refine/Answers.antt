-- `refine`: what each way does is the definition's, and the counts stay within bounds. Assumes nothing.
use Rattle.std.proofs.Common.{arith}
use Rattle.refining.proofs.Halves.{ref_deep, ref_over, ref_stop, ref_open, ref_both, fall, stay, ready_count, ready_push, ready_own, done_open, ready_left, push_right, ready_right, done_both}
use Rattle.refining.proofs.+refine.Goals as goal

pub returns-then-depth-gt32 : goal.returns-then-depth-gt32
returns-then-depth-gt32 t c = record { result_after = ref_deep _ _ _ _ _ _ _ c.if-depth-gt32.true; done = stay c.requires }

pub returns-then-s : goal.returns-then-s
returns-then-s t c = record { result_after = ref_over _ _ _ _ _ _ _ c.if-s.true; done = stay c.requires }

pub counted-requires : goal.counted-requires
counted-requires t c = ready_count c.requires

pub push-requires : goal.push-requires
push-requires t c = ready_push c.requires c.counted.ensures

pub counted-requires-in-Hidden : goal.counted-requires-in-Hidden
counted-requires-in-Hidden t c = ready_count c.requires

pub credit_at-s2-requires : goal.credit_at-s2-requires
credit_at-s2-requires t c = ready_own c.requires c.counted-in-Hidden.ensures

pub overflow_add-depth : goal.overflow_add-depth
overflow_add-depth t c = omega arith

pub refine-s3-requires : goal.refine-s3-requires
refine-s3-requires t c = (fall _ _ c.if-depth-gt32.false c.decreases, ready_left c.requires c.counted-in-Hidden.ensures c.if-s.false c.credit_at-s2.ensures.credited)

pub push-s4-requires : goal.push-s4-requires
push-s4-requires t c = push_right c.requires c.counted-in-Hidden.ensures c.if-s.false c.credit_at-s2.ensures.credited c.refine-s3.ensures.done c.refine-s3.auto.pts

pub overflow_add-depth-in-Hidden : goal.overflow_add-depth-in-Hidden
overflow_add-depth-in-Hidden t c = omega arith

pub refine-requires : goal.refine-requires
refine-requires t c =
    (fall _ _ c.if-depth-gt32.false c.decreases, ready_right c.requires c.counted-in-Hidden.ensures c.if-s.false c.credit_at-s2.ensures.credited c.refine-s3.ensures.done c.refine-s3.auto.pts c.push-s4.ensures.pushed c.push-s4.auto.pts)

pub returns-in-Stop : goal.returns-in-Stop
returns-in-Stop t c = record { result_after = ref_stop _ _ _ _ _ _ _ c.if-depth-gt32.false c.if-s.false c.turn_at-t.ensures c.in-Stop.is; done = stay c.requires }

pub returns-in-Open : goal.returns-in-Open
returns-in-Open t c =
    record {
      result_after = ref_open _ _ _ _ _ _ _ c.if-depth-gt32.false c.if-s.false c.turn_at-t.ensures c.counted.ensures c.in-Open.is c.push.ensures.result_after;
      done = done_open c.requires c.counted.ensures c.if-s.false c.push.ensures.pushed;
    }

pub returns-in-Hidden : goal.returns-in-Hidden
returns-in-Hidden t c =
    record {
      result_after = ref_both _ _ _ _ _ _ _ c.if-depth-gt32.false c.if-s.false c.turn_at-t.ensures c.counted-in-Hidden.ensures c.in-Hidden.is c.credit_at-s2.ensures.result_after c.refine-s3.ensures.result_after c.push-s4.ensures.result_after c.refine.ensures.result_after;
      done = done_both c.requires c.counted-in-Hidden.ensures c.if-s.false c.credit_at-s2.ensures.credited c.refine-s3.ensures.done c.refine-s3.auto.pts c.push-s4.ensures.pushed c.push-s4.auto.pts c.refine.ensures.done;
    }
