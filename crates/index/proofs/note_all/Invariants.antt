-- `note_all`: the first r of the order have their notes. Assumes nothing.
use Rattle.index.proofs.Notes.{Noting}
use Rattle.index.proofs.note_all.Given as goal

abbrev pub invariant-loop-r : goal.invariant-loop-r
invariant-loop-r l = Noting l.k l.floats l.x l.total l.n l.initial.words l.words l.r
