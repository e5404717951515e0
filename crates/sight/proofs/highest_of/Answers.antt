-- `highest_of`: the fold over the ids that are left, from what is found, is the fold over all. Assumes nothing.
use Rattle.sight.specs.Holding.{higher_of, highest}
use Rattle.lists.proofs.Folds.{filtered_next, filtered_end}
use mathlib.Core.Path.{refl, sym, ◌∙◌}
use Prim.Native.Nat.{◌<◌, ◌≤◌}
use lib.ListN.{length}
use native.Mathlib.Omega.{arith}
use Rattle.sight.proofs.highest_of.Goals as goal

pub loop-id-init : goal.loop-id-init
unfolding highest
loop-id-init c = refl

pub loop-id-preserved : goal.loop-id-preserved
loop-id-preserved c =
    let h : c.loop-id.id-index < length c.args.ids.now = omega arith in
    rw c.with_id-w.ensures (sym (filtered_next higher_of _ _ _ 0 _ h) ∙ c.loop-id.invariant)

pub returns : goal.returns
returns c =
    let h : length c.args.ids.now ≤ c.loop-id.id-index = omega arith in
    sym (filtered_end higher_of _ _ _ _ h) ∙ c.loop-id.invariant
