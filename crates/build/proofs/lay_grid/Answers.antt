-- `lay_grid`: bounds, cell, columns and rows are those of the stored boxes; refusal 4. Assumes nothing.
use mathlib.Core.Path.{◌≡◌, sym, ap, ◌∙◌}
use native.Mathlib.Omega.{arith}
use lib.Ieee.{Float}
use Rattle.grid.specs.Range.{columns_of}
use Rattle.grid.specs.declared.Grid.{Grid}
use Rattle.extent.specs.Extent.{bounds_of}
use Rattle.site.specs.Domain.{load_of}
use Rattle.build.specs.Outcome.{plan_by}
use Rattle.build.specs.Stored.{stored_boxes}
use Rattle.build.proofs.Deciding.{some_columns, cells_limits, few_columns, few_rows, grid_is, many_cells}
use Rattle.build.proofs.lay_grid.Goals as goal

pub few_cells-requires : goal.few_cells-requires
few_cells-requires c = (rw c.columns-cols.ensures (some_columns _ _), rw c.columns-rows.ensures (some_columns _ _))

pub returns-then-not-few_cells : goal.returns-then-not-few_cells
returns-then-not-few_cells c =
    let b : c.measure.result.bounds ≡ bounds_of (load_of c.args.width) (load_of c.args.height) (stored_boxes c.args.given.now c.args.lens.now) = rw (c.load.ensures, c.load-2.ensures) at c.measure.ensures.0 in
    many_cells c.args.width c.args.height c.args.given.now c.args.lens.now c.measure.result.bounds c.measure.result.sides c.cell_from-cell.result c.columns-cols.result c.columns-rows.result b c.measure.ensures.1 c.cell_from-cell.ensures (c.columns-cols.ensures ∙ ap (λ (x : Float). columns_of x c.cell_from-cell.result) c.width.ensures) (c.columns-rows.ensures ∙ ap (λ (x : Float). columns_of x c.cell_from-cell.result) c.height.ensures) c.args.room c.few_cells.result c.few_cells.ensures (c.if-not-few_cells.true)

pub overflow_cast-g : goal.overflow_cast-g
overflow_cast-g c = omega (arith, few_columns c.columns-cols.result c.columns-rows.result (rw c.columns-rows.ensures (some_columns _ _)) (sym c.few_cells.ensures ∙ c.if-not-few_cells.false))

pub overflow_cast-g-2 : goal.overflow_cast-g-2
overflow_cast-g-2 c = omega (arith, few_rows c.columns-cols.result c.columns-rows.result (rw c.columns-cols.ensures (some_columns _ _)) (sym c.few_cells.ensures ∙ c.if-not-few_cells.false))

pub fit-requires : goal.fit-requires
fit-requires c = (cells_limits _ (rw c.columns-cols.ensures (some_columns _ _)) (rw c.columns-rows.ensures (some_columns _ _)) (sym c.few_cells.ensures ∙ c.if-not-few_cells.false), c.requires)

pub returns : goal.returns
returns c =
    let b : c.measure.result.bounds ≡ bounds_of (load_of c.args.width) (load_of c.args.height) (stored_boxes c.args.given.now c.args.lens.now) = rw (c.load.ensures, c.load-2.ensures) at c.measure.ensures.0 in
    c.fit.ensures ∙ ap (λ (g : Grid). plan_by c.args.width c.args.height g c.args.given.now c.args.lens.now c.args.room) (grid_is c.args.width c.args.height c.args.given.now c.args.lens.now c.measure.result.bounds c.measure.result.sides c.cell_from-cell.result c.columns-cols.result c.columns-rows.result b c.measure.ensures.1 c.cell_from-cell.ensures (c.columns-cols.ensures ∙ ap (λ (x : Float). columns_of x c.cell_from-cell.result) c.width.ensures) (c.columns-rows.ensures ∙ ap (λ (x : Float). columns_of x c.cell_from-cell.result) c.height.ensures))
