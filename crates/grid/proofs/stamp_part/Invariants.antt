-- `grid::stamp_part` meets its contract. Assumes nothing.
use Rattle.grid.proofs.Stamping.{Left}
use lib.ListN.{drop}
use Prim.Native.Nat.{◌+◌, ◌≤◌}
use Rattle.grid.proofs.stamp_part.Given as goal

abbrev pub invariant-loop-id : goal.invariant-loop-id
invariant-loop-id l = (l.at ≤ l.n + l.id-index) × Left l.part (drop l.id-index l.part) l.initial.marks l.e l.initial.ids l.n l.marks l.ids l.at
