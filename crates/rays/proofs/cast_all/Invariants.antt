-- `cast_all`: the samples before i have their answers. Assumes nothing.
use Rattle.rays.proofs.Answers.{Answered}
use Rattle.rays.proofs.cast_all.Given as goal

abbrev pub invariant-loop-i : goal.invariant-loop-i
invariant-loop-i l = Answered l.k l.view l.x l.n l.initial.floats l.initial.words l.floats l.words l.i
