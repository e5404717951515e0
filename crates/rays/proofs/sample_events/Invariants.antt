-- `sample_events`: the samples of the events before i. Assumes nothing.
use Rattle.rays.proofs.Emitting.{Before}
use Rattle.rays.proofs.sample_events.Given as goal

abbrev pub invariant-loop-i : goal.invariant-loop-i
invariant-loop-i l = Before l.k l.view l.events l.initial.floats l.initial.words l.floats l.words l.n l.i
