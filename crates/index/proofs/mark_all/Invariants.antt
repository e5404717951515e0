-- `mark_all`: the edges from r on are marked. Assumes nothing.
use Rattle.index.proofs.Passes.{Tallied}
use Rattle.index.proofs.mark_all.Given as goal

abbrev pub invariant-loop-r : goal.invariant-loop-r
invariant-loop-r l = Tallied l.k l.floats l.x l.total l.n l.starts l.initial.words l.words l.r
