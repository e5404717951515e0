-- `fan::side_at`: the edge from a point of the polygon to the next. Assumes nothing.
use Rattle.fan.specs.Fan.{side_at}
use native.Mathlib.Nat.{mod-lt}
use Prim.Native.Nat.{◌+◌, ◌%◌, ◌<◌}
use native.Mathlib.Omega.{arith}
use Rattle.fan.proofs.side_at.Goals as goal

pub overflow_add-q-2 : goal.overflow_add-q-2
overflow_add-q-2 c = let h : (c.args.i + 1) % c.args.n < c.args.n = mod-lt _ (omega arith) in omega arith

pub returns : goal.returns
unfolding side_at
returns c = simp (← c.point_at.ensures, ← c.point_at-2.ensures, ← c.side.ensures)
