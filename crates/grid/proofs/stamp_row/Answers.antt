-- `grid::stamp_row` meets its contract. Assumes nothing.
use Prim.Native.Nat.{◌+◌}
use mathlib.Core.Path.{◌≡◌, ap, sym}
use native.Mathlib.Omega.{arith}
use lib.ListN.{length}
use Rattle.grid.specs.Entries.{row_part}
use Rattle.grid.proofs.Rows.{part_len}
use Rattle.grid.proofs.stamp_row.Goals as goal

pub stamp_part-found-requires : goal.stamp_part-found-requires
unfolding row_part
stamp_part-found-requires c =
    let l : length (row_part c.args.starts.now c.args.items.now c.args.first c.args.width) ≡ _ = part_len _ _ _ _ c.requires.row_in in
    omega (arith, l, c.requires)

pub returns : goal.returns
unfolding row_part
returns c = record { found_value = c.stamp_part-found.ensures.value; read_value = ap (◌+◌ c.args.t.read) (sym (part_len _ _ _ _ c.requires.row_in)); marks_after = c.stamp_part-found.ensures.marks_after; ids_after = c.stamp_part-found.ensures.ids_after }
