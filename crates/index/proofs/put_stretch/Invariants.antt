-- `put_stretch`: the buckets from the first up to b are done. Assumes nothing.
use Rattle.std.proofs.Common.{◌+◌, ◌-◌, ◌≤◌, take, drop}
use Rattle.tables.specs.Scatter.{within, Put}
use Rattle.index.proofs.put_stretch.Given as goal

abbrev pub invariant-loop-b : goal.invariant-loop-b
invariant-loop-b l = (l.b ≤ l.fn.s.from + (l.fn.s.to - l.fn.s.from)) × Put (within l.fn.s.from l.b) l.id (take l.refs l.initial.w) (drop l.refs l.initial.w) (take l.refs l.w) (drop l.refs l.w)
