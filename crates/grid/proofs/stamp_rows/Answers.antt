-- `grid::stamp_rows` meets its contract. Assumes nothing.
use Prim.Native.Nat.{◌+◌, ◌*◌, ◌≤◌}
use mathlib.Core.Path.{◌∙◌}
use native.Mathlib.Nat.{zero-add}
use native.Mathlib.Omega.{arith}
use Rattle.grid.specs.Entries.{RowIn, entries_in}
use Rattle.grid.proofs.Stamping.{end_marks, end_count, end_ids}
use Rattle.grid.proofs.RowsLoop.{tally_is, start, step, done, moved_w, room, row_here}
use Rattle.grid.proofs.stamp_rows.Goals as goal

pub loop-row-init : goal.loop-row-init
loop-row-init c = start _ _ _ _ _ _ _ _ _ _

pub overflow_mul-row : goal.overflow_mul-row
overflow_mul-row c = omega (arith, (let it : RowIn c.args.starts.now c.args.items.now (c.loop-row.row * c.args.g.cols + c.args.r.c0) c.count-width.result = row_here _ _ _ _ _ _ c.requires.sound_grid c.requires.in_grid.r1_in ((let it : c.args.r.c0 + c.count-width.result ≤ c.args.g.cols = omega (arith, c.requires.in_grid, c.count-width.ensures) in it)) c.loop-row.row (omega (arith, c.loop-row-test.true)) in it), c.requires)

pub overflow_add-row : goal.overflow_add-row
overflow_add-row c = omega (arith, (let it : RowIn c.args.starts.now c.args.items.now (c.loop-row.row * c.args.g.cols + c.args.r.c0) c.count-width.result = row_here _ _ _ _ _ _ c.requires.sound_grid c.requires.in_grid.r1_in ((let it : c.args.r.c0 + c.count-width.result ≤ c.args.g.cols = omega (arith, c.requires.in_grid, c.count-width.ensures) in it)) c.loop-row.row (omega (arith, c.loop-row-test.true)) in it), c.requires)

pub stamp_row-t-requires : goal.stamp_row-t-requires
stamp_row-t-requires c = let k = room _ _ _ _ _ _ c.requires.sound_grid c.requires.in_grid.r1_in ((let it : c.args.r.c0 + c.count-width.result ≤ c.args.g.cols = omega (arith, c.requires.in_grid, c.count-width.ensures) in it)) c.loop-row.invariant (omega (arith, c.loop-row-test.true)) in record { row_in = (let it : RowIn c.args.starts.now c.args.items.now (c.loop-row.row * c.args.g.cols + c.args.r.c0) c.count-width.result = row_here _ _ _ _ _ _ c.requires.sound_grid c.requires.in_grid.r1_in ((let it : c.args.r.c0 + c.count-width.result ≤ c.args.g.cols = omega (arith, c.requires.in_grid, c.count-width.ensures) in it)) c.loop-row.row (omega (arith, c.loop-row-test.true)) in it); found_le_read = (c.loop-row.invariant.fewer, omega (arith, k, c.well_formed)) }

pub loop-row-preserved : goal.loop-row-preserved
loop-row-preserved c =
    moved_w _ _ _ _ _ _
    (step _ _ _ _ _ _ c.requires.sound_grid c.requires.in_grid.r1_in ((let it : c.args.r.c0 + c.count-width.result ≤ c.args.g.cols = omega (arith, c.requires.in_grid, c.count-width.ensures) in it)) c.loop-row.invariant (omega (arith, c.loop-row-test.true)))
    c.stamp_row-t.ensures.marks_after c.stamp_row-t.ensures.ids_after c.stamp_row-t.ensures.found_value c.stamp_row-t.ensures.read_value

pub returns : goal.returns
unfolding entries_in
returns c =
    let f = done _ _ _ _ _ _ c.requires.sound_grid c.requires.in_grid.r1_in ((let it : c.args.r.c0 + c.count-width.result ≤ c.args.g.cols = omega (arith, c.requires.in_grid, c.count-width.ensures) in it)) c.loop-row.invariant (omega (arith, c.loop-row-test.false)) in
    rw (← c.count-width.ensures)
    (record { value = tally_is _ _ _ _ (end_count f.0 ∙ zero-add _) f.1; marks_after = end_marks f.0; ids_after = end_ids f.0 })
