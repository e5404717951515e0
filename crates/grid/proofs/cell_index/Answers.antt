-- `grid::cell_index` meets its contract. Assumes nothing.
use Prim.Native.Nat.{◌-◌, ◌≤◌}
use mathlib.Core.Path.{◌≡◌, ◌∙◌}
use native.Mathlib.Omega.{arith}
use Rattle.num.specs.Num.{floor_of}
use Rattle.grid.specs.Range.{cell_index}
use Rattle.grid.proofs.Ranges.{index_le}
use Rattle.grid.proofs.Direct.{index_last, index_cut}
use Rattle.grid.proofs.cell_index.Goals as goal

pub returns-then-y-n : goal.returns-then-y-n
returns-then-y-n c = index_last c.args.n c.args.y (omega arith) (omega arith) c.if-y-n.true

pub overflow_cast-result : goal.overflow_cast-result
overflow_cast-result c =
    let e : c.to_u64.result ≡ cell_index (floor_of c.args.y) (c.args.n - 1) = c.to_u64.ensures ∙ index_cut c.args.n c.args.y (omega arith) (omega arith) c.if-y-n.false in
    let l : cell_index (floor_of c.args.y) (c.args.n - 1) ≤ c.args.n - 1 = index_le (floor_of c.args.y) (c.args.n - 1) (omega arith) in
    omega arith

pub returns : goal.returns
returns c = c.to_u64.ensures ∙ index_cut c.args.n c.args.y (omega arith) (omega arith) c.if-y-n.false
