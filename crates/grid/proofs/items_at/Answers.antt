-- `grid::items_at` meets its contract. Assumes nothing.
use mathlib.Core.Path.{◌≡◌, sym, ◌∙◌}
use mathlib.Core.Bool.{true, false}
use Prim.Native.Nat.{◌+◌, ◌-◌}
use native.Mathlib.Omega.{arith}
use Rattle.grid.specs.Range.{is_off}
use Rattle.grid.specs.Query.{items_at, items_by}
use Rattle.grid.proofs.Ranges.{cell_fits}
use Rattle.grid.proofs.Direct.{last_same}
use Rattle.grid.proofs.PointCell.{column_of, row_of, point_range}
use Rattle.grid.proofs.items_at.Goals as goal

pub returns-then-is_off : goal.returns-then-is_off
unfolding items_at items_by
returns-then-is_off c =
    let k : is_off (c.args.g.cols - 1 + 1) (c.args.g.rows - 1 + 1) c.args.p (column_of c.args.g c.args.p) (row_of c.args.g c.args.p) ≡ true = rw (c.at_least_one-nc.ensures, c.at_least_one-nr.ensures) at (sym c.is_off.ensures ∙ c.if-is_off.true) in
    rw (point_range c.args.g c.args.p (omega arith) (omega arith), k)

pub overflow_mul-c : goal.overflow_mul-c
overflow_mul-c c = omega (arith, cell_fits c.cell_index.result c.args.g.cols 0 (omega arith) (omega arith) (omega arith))

pub overflow_add-c : goal.overflow_add-c
overflow_add-c c = omega (arith, cell_fits c.cell_index.result c.args.g.cols c.cell_index-2.result (omega arith) (omega arith) (omega arith))

pub returns : goal.returns
unfolding items_at items_by
returns c =
    let k : is_off (c.args.g.cols - 1 + 1) (c.args.g.rows - 1 + 1) c.args.p (column_of c.args.g c.args.p) (row_of c.args.g c.args.p) ≡ false = rw (c.at_least_one-nc.ensures, c.at_least_one-nr.ensures) at (sym c.is_off.ensures ∙ c.if-is_off.false) in
    let u = rw (c.at_least_one-nr.ensures, last_same c.args.g.rows) at c.cell_index.ensures in
    let v = rw (c.at_least_one-nc.ensures, last_same c.args.g.cols) at c.cell_index-2.ensures in
    rw (point_range c.args.g c.args.p (omega arith) (omega arith), k) (c.cell_items.ensures ∙ rw (u, v))
