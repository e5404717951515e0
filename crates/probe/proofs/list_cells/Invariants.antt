-- `probe::list_cells` meets its contract. Assumes nothing.
use Rattle.probe.proofs.Walking.{Left}
use Rattle.walk.specs.Steps.{left}
use Rattle.probe.proofs.list_cells.Given as goal

abbrev pub invariant-loop-q : goal.invariant-loop-q
invariant-loop-q l = Left l.k l.initial.p l.p l.initial.out l.out l.n

abbrev pub decreases-loop-q : goal.decreases-loop-q
decreases-loop-q l = left l.k l.p
