-- `room::put_hit` meets its contract: see proofs/Puts.antt. Assumes nothing.
use mathlib.Core.Path.{refl}
use Prim.Native.Nat.{◌+◌, ◌*◌}
use native.Mathlib.Omega.{arith}
use Rattle.room.proofs.Puts.{cell_laid, row_laid, hit_put}
use Rattle.room.proofs.put_hit.Goals as goal

pub returns : goal.returns
returns c =
    let at = c.samples_w.result + 4 * c.args.i + 2 in
    hit_put c.args.k c.args.i c.args.floats.now c.args.words.now c.args.h c.args.tied _ _ c.requires.below
    (cell_laid c.args.floats.now c.put.new.s _ c.distances_f-mid.result c.dirs_f-to.result c.args.i _ (rw c.distance_of.ensures at c.put.ensures) (omega arith) (omega arith) (omega arith))
    (row_laid c.args.words.now c.copy_from_slice.new.self _ at (at + 2) 2 _ (rw (c.tag_of.ensures, c.number_of.ensures) at c.copy_from_slice.ensures.after) (omega arith) refl (omega (arith, c.samples_w.ensures, c.requires.fit.words_fit, c.requires.below)) refl)
