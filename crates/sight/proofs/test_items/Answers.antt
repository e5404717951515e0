-- `test_items`: what is left of the ids, from the state so far, ends as all of them do. Assumes nothing.
use Rattle.sight.specs.Casting.{item_seen, items_seen}
use Rattle.lists.proofs.Folds.{fold_next, fold_end}
use mathlib.Core.Path.{refl, sym, ◌∙◌}
use Prim.Native.Nat.{◌<◌, ◌≤◌}
use lib.ListN.{length}
use native.Mathlib.Omega.{arith}
use Rattle.sight.proofs.test_items.Goals as goal

pub loop-id-init : goal.loop-id-init
loop-id-init c = refl

pub loop-id-preserved : goal.loop-id-preserved
unfolding items_seen
loop-id-preserved c =
    let h : c.loop-id.id-index < length c.args.ids.now = omega arith in
    rw c.test_item-s.ensures (sym (fold_next (item_seen _ _ _ _ _) _ _ 0 _ h) ∙ c.loop-id.invariant)

pub returns : goal.returns
unfolding items_seen
returns c =
    let h : length c.args.ids.now ≤ c.loop-id.id-index = omega arith in
    sym (fold_end (item_seen _ _ _ _ _) _ _ _ h) ∙ c.loop-id.invariant
