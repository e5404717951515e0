-- Laws of `all_to`: at a number, from every number, and of tests that agree. Assumes nothing.
use mathlib.Core.Path.{◌≡◌, refl, ap, subst, ◌∙◌}
use mathlib.Core.Logic.{⊎_elim}
use mathlib.Core.Bool.{Bool, true, false, ◌&&◌, ◌||◌, and-false, and-eq-true_iff}
use Prim.Native.Nat.{ℕ, zero, suc, ◌<◌}
use native.Mathlib.Omega.{arith}
use Rattle.lists.specs.Members.{all_to}
use Rattle.lists.proofs.Cases.{lt_or_le}

-- both tests pass
pub both : (a b : Bool) → (a && b) ≡ true → (a ≡ true) × (b ≡ true)
both a b e = (and-eq-true_iff a b).0 e

-- neither of two passes
pub neither : (a b : Bool) → (a || b) ≡ false → (a ≡ false) × (b ≡ false)
neither true b e = (e, (cc))
neither false b e = (refl, e)

-- where every number below n passes, each does
pub all_to_at : (p : ℕ → Bool) (n : ℕ) → all_to p n ≡ true → (k : ℕ) → k < n → p k ≡ true
all_to_at p zero e k h = absurd (omega arith)
all_to_at p (suc n) e k h =
    ⊎_elim (λ l. all_to_at p n (both _ _ e).0 k l)
    (λ l. let q : n ≡ k = omega arith in subst (λ (i : ℕ). p i ≡ true) q (both (all_to p n) (p n) e).1)
    (lt_or_le k n)

-- and the other way round
pub all_to_lem : (p : ℕ → Bool) (n : ℕ) → ((k : ℕ) → k < n → p k ≡ true) → all_to p n ≡ true
all_to_lem p zero f = refl
all_to_lem p (suc n) f = rw (all_to_lem p n (λ k h. f k (omega arith)), f n (omega arith))

-- one that fails is enough
pub all_to_fails : (p : ℕ → Bool) (n k : ℕ) → k < n → p k ≡ false → all_to p n ≡ false
all_to_fails p zero k h e = absurd (omega arith)
all_to_fails p (suc n) k h e =
    ⊎_elim (λ l. ap (λ (b : Bool). b && p n) (all_to_fails p n k l e))
    (λ l. let q : k ≡ n = omega arith in ap (λ (b : Bool). all_to p n && b) (subst (λ (i : ℕ). p i ≡ false) q e) ∙ and-false (all_to p n))
    (lt_or_le k n)

-- tests that agree below n
pub all_to_ext : (p q : ℕ → Bool) (n : ℕ) → ((k : ℕ) → k < n → p k ≡ q k) → all_to p n ≡ all_to q n
all_to_ext p q zero f = refl
all_to_ext p q (suc n) f = rw (all_to_ext p q n (λ k h. f k (omega arith)), f n (omega arith))
