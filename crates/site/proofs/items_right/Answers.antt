-- `site::items_right` meets its contract. Assumes nothing.
use mathlib.Core.Path.{◌≡◌, ap, ◌∙◌}
use native.Mathlib.Omega.{arith}
use lib.ListN.{length-take}
use Rattle.lists.specs.Members.{all_to}
use Rattle.site.specs.Soundness.{items_right}
use Rattle.site.proofs.items_right.Goals as goal

pub returns : goal.returns
unfolding items_right
returns c =
    let n = length-take c.args.count c.args.items.now in
    let e : c.loop-k.k-index ≡ c.args.count = omega (arith, c.requires) in
    c.loop-k.invariant ∙ ap (all_to _) e
