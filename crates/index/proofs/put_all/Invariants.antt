-- `put_all`: the buckets up to lo are done, and those up to hi have the edges from r on. Assumes nothing.
use Rattle.std.proofs.Common.{◌-◌}
use Rattle.index.proofs.Passes.{Scattered, Stripped}
use Rattle.index.proofs.put_all.Given as goal

abbrev pub invariant-loop-r : goal.invariant-loop-r
invariant-loop-r l = Stripped l.k l.floats l.x l.total l.n l.starts l.refs l.lo l.hi l.initial.words l.words l.r

abbrev pub invariant-loop-lo : goal.invariant-loop-lo
invariant-loop-lo l = Scattered l.k l.floats l.x l.total l.n l.starts l.refs l.initial.words l.words l.lo l.lo l.n

abbrev pub decreases-loop-lo : goal.decreases-loop-lo
decreases-loop-lo l = l.count - l.lo
