-- `grid::stamp_rows` meets its contract. Assumes nothing.
use Rattle.grid.proofs.RowsLoop.{Walked}
use Rattle.grid.proofs.stamp_rows.Given as goal

abbrev pub invariant-loop-row : goal.invariant-loop-row
invariant-loop-row l = Walked l.starts l.items l.cols l.c0 l.width l.r1 l.r0 l.initial.marks l.e l.initial.ids l.marks l.ids l.row l.t.found l.t.read
