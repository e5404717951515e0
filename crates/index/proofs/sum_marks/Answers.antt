-- `sum_marks`: the places up to b are done. Assumes nothing.
use Rattle.std.proofs.Common.{refl, arith}
use Rattle.index.proofs.Marks.{summing_none, sum_small, summing_more}
use Rattle.index.proofs.sum_marks.Goals as goal

pub loop-start-init : goal.loop-start-init
loop-start-init c = summing_none _

pub overflow_add-sum : goal.overflow_add-sum
overflow_add-sum c = omega (arith, sum_small c.args.starts.now c.loop-start.starts c.loop-start.start-index c.loop-start.tally c.loop-start.sum (omega arith) c.loop-start.invariant _ refl c.requires)

pub loop-start-preserved : goal.loop-start-preserved
loop-start-preserved c = summing_more c.args.starts.now c.loop-start.starts c.loop-start.start-index c.loop-start.tally c.loop-start.sum (omega arith) c.loop-start.invariant _ refl

pub returns : goal.returns
returns c = λ b h. c.loop-start.invariant.done b (omega arith)
