-- `room::put_event` meets its contract: see proofs/Puts.antt. Assumes nothing.
use mathlib.Core.Path.{refl}
use Prim.Native.Nat.{◌+◌, ◌*◌}
use native.Mathlib.Omega.{arith}
use Rattle.room.proofs.Puts.{cell_laid, row_laid, event_put}
use Rattle.room.proofs.put_event.Goals as goal

pub returns : goal.returns
returns c =
    let at = c.events_w.result + 2 * c.args.i in
    event_put c.args.k c.args.i c.args.floats.now c.args.words.now c.args.e _ _ c.requires.below
    (cell_laid c.args.floats.now c.put.new.s _ c.events_f-from.result c.merged_f-to.result c.args.i c.args.e.angle c.put.ensures (omega arith) (omega arith) (omega arith))
    (row_laid c.args.words.now c.copy_from_slice.new.self _ at (at + 2) 2 _ c.copy_from_slice.ensures.after (omega arith) refl (omega arith) refl)
