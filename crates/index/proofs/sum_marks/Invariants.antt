-- `sum_marks`: the places up to b are done. Assumes nothing.
use Rattle.index.proofs.Marks.{Summing}
use Rattle.index.proofs.sum_marks.Given as goal

abbrev pub invariant-loop-start : goal.invariant-loop-start
invariant-loop-start l = Summing l.initial.starts l.starts l.start-index l.tally l.sum
