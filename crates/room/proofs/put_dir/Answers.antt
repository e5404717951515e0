-- `room::put_dir` meets its contract: see proofs/Puts.antt. Assumes nothing.
use mathlib.Core.Path.{refl}
use Prim.Native.Nat.{◌+◌, ◌*◌}
use native.Mathlib.Omega.{arith}
use Rattle.room.proofs.Puts.{row_laid, dir_put}
use Rattle.room.proofs.put_dir.Goals as goal

pub returns : goal.returns
returns c =
    let at = c.dirs_f.result + 2 * c.args.i in
    dir_put c.args.k c.args.i c.args.floats.now c.args.d _ c.requires.1
    (row_laid c.args.floats.now c.copy_from_slice.new.self _ at (at + 2) 2 _ c.copy_from_slice.ensures.after (omega arith) refl (omega arith) refl)
