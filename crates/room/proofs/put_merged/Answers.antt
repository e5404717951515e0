-- `room::put_merged` meets its contract: see proofs/Puts.antt. Assumes nothing.
use mathlib.Core.Path.{refl}
use Prim.Native.Nat.{◌+◌, ◌*◌}
use native.Mathlib.Omega.{arith}
use Rattle.room.proofs.Puts.{cell_laid, row_laid, merged_put}
use Rattle.room.proofs.put_merged.Goals as goal

pub returns : goal.returns
returns c =
    let at = c.merged_w.result + 3 * c.args.i in
    merged_put c.args.k c.args.i c.args.floats.now c.args.words.now c.args.e _ _ c.requires.below
    (cell_laid c.args.floats.now c.put.new.s _ c.merged_f-from.result c.samples_f-to.result c.args.i c.args.e.angle c.put.ensures (omega arith) (omega arith) (omega arith))
    (row_laid c.args.words.now c.copy_from_slice.new.self _ at (at + 3) 3 _ c.copy_from_slice.ensures.after (omega arith) refl (omega arith) refl)
