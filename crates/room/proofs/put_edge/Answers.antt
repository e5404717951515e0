-- `room::put_edge` meets its contract: see proofs/Puts.antt. Assumes nothing.
use mathlib.Core.Path.{◌≡◌, refl}
use mathlib.Core.List.{[], ◌∷◌}
use Prim.Native.Nat.{◌+◌, ◌-◌, ◌*◌, ◌≤◌, ◌<◌}
use lib.ListN.{length}
use Rattle.room.specs.Layout.{edges_f, floats_for}
use native.Mathlib.Omega.{arith}
use borrow.Rule.Slice.PartMut.{put_mid}
use Rattle.lists.proofs.Only.{Laid}
use Rattle.room.proofs.Puts.{cell_laid, row_laid, edge_put}
use Rattle.room.proofs.put_edge.Goals as goal

pub returns : goal.returns
returns c =
    let n_is : c.args.i ≡ c.args.i = refl in
    let own_is : c.edges_f-own.result ≡ edges_f c.args.k = c.edges_f-own.ensures in
    let below : c.args.i < c.args.k.edges = c.requires.below in
    let long : floats_for c.args.k ≤ length c.args.floats.now = c.requires.fit.floats_fit in
    let f₁ = put_mid 0 (c.edges_f-own.result - 0) c.args.floats.now c.put.new.s in
    let p : Laid c.args.i 1 (c.args.e.near ∷ []) c.args.floats.now f₁ = cell_laid c.args.floats.now _ c.args.i 0 c.edges_f-own.result c.args.i c.args.e.near c.put.ensures (omega arith) (omega arith) (omega arith) in
    edge_put c.args.k c.args.i c.args.floats.now c.args.words.now c.args.e f₁ _ _ below p
    (row_laid f₁ c.copy_from_slice.new.self _ (c.edges_f-own.result + 6 * c.args.i) (c.edges_f-own.result + 6 * c.args.i + 6) 6 _ c.copy_from_slice.ensures.after (omega arith) refl (omega (arith, p.only.long)) refl)
    (cell_laid c.args.words.now c.put-2.new.s _ c.edges_w-from.result c.nearest_w-to.result c.args.i c.args.e.edge c.put-2.ensures (omega (arith, c.edges_w-from.ensures)) (omega (arith, c.nearest_w-to.ensures, c.requires.fit.words_fit)) (omega (arith, c.edges_w-from.ensures, c.nearest_w-to.ensures)))
