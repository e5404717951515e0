-- `count_refs`: the references of the edges up to i. Assumes nothing.
use Rattle.std.proofs.Common.{◌≡◌}
use Rattle.index.specs.Filling.{refs_to}
use Rattle.index.proofs.count_refs.Given as goal

abbrev pub invariant-loop-i : goal.invariant-loop-i
invariant-loop-i l = l.refs ≡ refs_to l.k l.floats l.x l.total l.i
