-- `gather`: what is closed, and what the open event and the rest come to, are all the merged events. Assumes nothing.
use Rattle.events.proofs.Loop.{Loop}
use Rattle.events.proofs.gather.Given as goal

abbrev pub invariant-loop-t : goal.invariant-loop-t
invariant-loop-t l = Loop l.k l.initial.floats l.initial.words l.m l.floats l.words l.g l.t
