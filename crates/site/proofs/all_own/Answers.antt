-- `site::all_own` meets its contract. Assumes nothing.
use mathlib.Core.Path.{◌≡◌, sym, ap, ◌∙◌}
use native.Mathlib.Omega.{arith}
use Rattle.lists.specs.Members.{all_to}
use Rattle.site.specs.Soundness.{all_own}
use Rattle.lists.proofs.AllTo.{all_to_fails}
use Rattle.site.proofs.all_own.Goals as goal

pub returns-then-not-owns_points : goal.returns-then-not-owns_points
unfolding all_own
returns-then-not-owns_points c = sym (all_to_fails _ _ _ c.loop-k-test.true (sym c.owns_points.ensures ∙ c.if-not-owns_points.true))

pub returns : goal.returns
unfolding all_own
returns c =
    let e : c.loop-k.k ≡ c.args.n = omega arith in
    sym c.loop-k.invariant ∙ ap (all_to _) e
