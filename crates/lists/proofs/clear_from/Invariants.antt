-- `lists::clear_from` meets its contract. The invariant, its turns and its end are laws over the zero.
-- Assumes nothing.
use Rattle.lists.proofs.Zeros.{Clearing}
use Rattle.lists.proofs.clear_from.Given as goal

abbrev pub invariant-loop-i : goal.invariant-loop-i
invariant-loop-i g l = Clearing g.T.Entry.zero l.initial.s l.n l.s l.i
