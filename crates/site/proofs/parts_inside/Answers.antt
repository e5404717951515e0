-- `site::parts_inside` meets its contract. Assumes nothing.
use mathlib.Core.Path.{◌≡◌, ap, ◌∙◌}
use Rattle.site.specs.Soundness.{parts_inside}
use Rattle.lists.specs.Members.{all_to}
use native.Mathlib.Omega.{arith}
use Rattle.site.proofs.parts_inside.Goals as goal

pub returns : goal.returns
unfolding parts_inside
returns c =
    let e : c.loop-k.k ≡ c.args.n = omega arith in
    c.loop-k.invariant ∙ ap (all_to _) e
