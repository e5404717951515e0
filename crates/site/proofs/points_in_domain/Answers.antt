-- `site::points_in_domain` meets its contract. Assumes nothing.
use mathlib.Core.Path.{◌≡◌, ap, ◌∙◌}
use Rattle.site.specs.Soundness.{points_in_domain}
use Rattle.lists.specs.Members.{all_to}
use native.Mathlib.Omega.{arith}
use Rattle.site.proofs.points_in_domain.Goals as goal

pub returns : goal.returns
unfolding points_in_domain
returns c =
    let e : c.loop-i.i ≡ c.args.n = omega arith in
    c.loop-i.invariant ∙ ap (all_to _) e
