-- WHEN A CONE'S OWN OUTLINE IS REFUSED, AND AS WHAT (`cone_outline_exactly`): 1 exactly where the cone lies outside the domain, then 8 exactly where the list has fewer
-- than two numbers for each point. What each answer leaves in the list (`list_left`), and NO SECOND OUTCOME (`only`). Document 01, "Refusal numbers". All of it is of
-- any outcome that keeps the promise of `ViewCone::outline`. Assumes nothing.
use Rattle.std.proofs.Common.{Err}
use mathlib.Core.Path.{◌≡◌, refl, sym, ◌∙◌, subst}
use mathlib.Core.Bool.{Bool, true, false, cond}
use mathlib.Core.List.{List}
use Prim.Native.Nat.{ℕ, ◌*◌, ◌≤◌}
use native.Mathlib.Omega.{arith}
use borrow.Author.Tests.{ltb-false, le-ltb}
use lib.ListN.{length, replicate}
use lib.Ieee.{Float}
use Rattle.num.specs.Ops.{zero_f}
use Rattle.site.specs.Domain.{load_of}
use Rattle.site.specs.Checks.{Checks, passed, check, Exactly}
use Rattle.site.proofs.Checks.{all_passed, by_true, by_false, either}
use Rattle.cone.specs.declared.ViewCone.{ViewCone}
use Rattle.cone.specs.Domain.{cone_in_domain, load_cone_of}
use Rattle.cone.specs.Outline.{Outcome, outcome, outline_points, points_for, too_short, laid_in, outline_outcome, Promise}
use Rattle.cone.proofs.FewSteps.{few_points}
use Rattle.refusal.specs.declared.Refusal.TheVariants.{NoListRoom, OutsideDomain}
use Rattle.refusal.specs.Numbers.{status_of}

-- the checks, for a list of so many numbers
abbrev pub outline_checks : ViewCone → Float → ℕ → Checks
outline_checks c tolerance numbers = check 1 (cone_in_domain c ≡ true) (check 8 (2 * length (points_for c tolerance) ≤ numbers) passed)

-- what is left of the list, by the answer's number n
pub record Leaves (c : ViewCone) (tolerance : Float) (old : List Float) (o : Outcome) (n : ℕ) : Type 0 where
  pub one_as_it_was : n ≡ 1 → o.list ≡ old
  pub eight_zeros : n ≡ 8 → o.list ≡ replicate (length old) zero_f
  pub none_laid : n ≡ 0 → o ≡ laid_in (length old) (points_for c tolerance)
  pub no_points : (n ≡ 0 → ⊥) → outline_points o.answer ≡ 0

module _ (c : ViewCone) (tolerance : Float) (old : List Float) where
  abbrev by : Bool → Bool → Outcome
  by i s = cond i (cond s (outcome (Err NoListRoom) (replicate (length old) zero_f)) (laid_in (length old) (points_for c tolerance))) (outcome (Err OutsideDomain) old)

  leaves_by : (i s : Bool) → Leaves c tolerance old (by i s) (status_of (by i s).answer)
  leaves_by true true = record { one_as_it_was = λ g. absurd (omega (arith, g)); eight_zeros = λ g. refl; none_laid = λ g. absurd (omega (arith, g)); no_points = λ g. refl }
  leaves_by true false = record { one_as_it_was = λ g. absurd (omega (arith, g)); eight_zeros = λ g. absurd (omega (arith, g)); none_laid = λ g. refl; no_points = λ g. absurd (g refl) }
  leaves_by false s = record { one_as_it_was = λ g. refl; eight_zeros = λ g. absurd (omega (arith, g)); none_laid = λ g. absurd (omega (arith, g)); no_points = λ g. refl }

  exactly_is : Exactly (outline_checks c tolerance (length old)) (status_of (outline_outcome c tolerance old).answer)
  unfolding outline_outcome
  exactly_is =
      rw (either (λ (o : Outcome). status_of o.answer) (cone_in_domain c), either (λ (o : Outcome). status_of o.answer) (too_short c tolerance (length old)))
      (by_true 1 (cone_in_domain c ≡ true) (check 8 (2 * length (points_for c tolerance) ≤ length old) passed) _ (cone_in_domain c) refl (λ i. i) (λ i. i)
      (λ _. by_false 8 (2 * length (points_for c tolerance) ≤ length old) passed 0 (too_short c tolerance (length old)) refl (ltb-false _ _) (le-ltb _ _) (λ _. all_passed)))

  leaves_is : Leaves c tolerance old (outline_outcome c tolerance old) (status_of (outline_outcome c tolerance old).answer)
  unfolding outline_outcome
  leaves_is = leaves_by (cone_in_domain c) (too_short c tolerance (length old))

  -- ---- THE THEOREMS, of whatever keeps the promise
  module _ {o : Outcome} (p : Promise c tolerance old o) where
    pub cone_outline_exactly : Exactly (outline_checks c tolerance (length old)) (status_of o.answer)
    cone_outline_exactly = subst (λ (q : Outcome). Exactly (outline_checks c tolerance (length old)) (status_of q.answer)) (sym p) exactly_is

    pub list_left : Leaves c tolerance old o (status_of o.answer)
    list_left = subst (λ (q : Outcome). Leaves c tolerance old q (status_of q.answer)) (sym p) leaves_is

    pub only : {o' : Outcome} → Promise c tolerance old o' → o ≡ o'
    only q = p ∙ sym q

-- ---- 14,340 numbers are always enough
pub always_enough : (c : ViewCone) (tolerance : Float) (old : List Float) {o : Outcome} → Promise c tolerance old o → 14340 ≤ length old → status_of o.answer ≡ 8 → ⊥
always_enough c tolerance old p h e =
    ((cone_outline_exactly c tolerance old p).only 8 e).1 (omega (arith, h, few_points (load_cone_of c) (load_of tolerance)))
