-- `room::put_sample` meets its contract: see proofs/Puts.antt. Assumes nothing.
use mathlib.Core.Path.{◌≡◌, refl}
use mathlib.Core.List.{[], ◌∷◌}
use Prim.Native.Nat.{◌+◌, ◌-◌, ◌*◌, ◌≤◌, ◌<◌}
use lib.ListN.{length}
use native.Mathlib.Omega.{arith}
use borrow.Rule.Slice.PartMut.{put_mid}
use Rattle.lists.proofs.Only.{Laid}
use Rattle.room.specs.Layout.{samples_f, distances_f, dirs_f, floats_for}
use Rattle.room.proofs.Puts.{cell_laid, row_laid, sample_put}
use Rattle.room.proofs.put_sample.Goals as goal

pub returns : goal.returns
returns c =
    let n_is : c.args.i ≡ c.args.i = refl in
    let from_is : c.samples_f-from.result ≡ samples_f c.args.k = c.samples_f-from.ensures in
    let mid_is : c.distances_f-mid.result ≡ distances_f c.args.k = c.distances_f-mid.ensures in
    let to_is : c.dirs_f-to.result ≡ dirs_f c.args.k = c.dirs_f-to.ensures in
    let at = c.samples_w.result + 4 * c.args.i in
    let below : c.args.i < c.args.k.samples = c.requires.below in
    let long : floats_for c.args.k ≤ length c.args.floats.now = c.requires.fit.floats_fit in
    let f₁ = put_mid c.samples_f-from.result (c.distances_f-mid.result - c.samples_f-from.result) c.args.floats.now c.put.new.s in
    let p : Laid (samples_f c.args.k + c.args.i) 1 (c.args.s.angle ∷ []) c.args.floats.now f₁ = cell_laid c.args.floats.now _ _ c.samples_f-from.result c.distances_f-mid.result c.args.i c.args.s.angle c.put.ensures (omega arith) (omega arith) (omega arith) in
    sample_put c.args.k c.args.i c.args.floats.now c.args.words.now c.args.s f₁ _ _ below p
    (cell_laid f₁ c.put-2.new.s _ c.distances_f-mid.result c.dirs_f-to.result c.args.i _ (rw c.distance_of.ensures at c.put-2.ensures) (omega arith) (omega (arith, p.only.long)) (omega arith))
    (row_laid c.args.words.now c.copy_from_slice.new.self _ at (at + 4) 4 _ (rw (c.tag_of.ensures, c.number_of.ensures) at c.copy_from_slice.ensures.after) (omega (arith, c.samples_w.ensures)) refl (omega (arith, c.samples_w.ensures, c.requires.fit.words_fit)) refl)
