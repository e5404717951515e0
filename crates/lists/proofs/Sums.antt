-- Laws of `sum_to` and `sum_over`.
-- Assumes nothing.
use mathlib.Core.Path.{◌≡◌, refl, sym, ap, ◌∙◌, subst}
use mathlib.Core.Logic.{⊎_elim}
use mathlib.Core.List.{List, [], ◌∷◌}
use Prim.Native.Nat.{ℕ, zero, suc, ◌+◌, ◌*◌, ◌≤◌, ◌<◌}
use native.Mathlib.Nat.{le_of_suc-le-suc, not-suc-le-zero, eq-or-lt_of_le, le_refl, zero-mul, suc-mul}
use native.Mathlib.Omega.{arith}
use Rattle.lists.specs.Lists.{sum_to, sum_over}
use Rattle.lists.specs.Members.{All}

pub sum_to_ext : (f g : ℕ → ℕ) (n : ℕ) → ((k : ℕ) → k < n → f k ≡ g k) → sum_to f n ≡ sum_to g n
sum_to_ext f g zero h = refl
sum_to_ext f g (suc n) h =
    let a : sum_to f n ≡ sum_to g n = sum_to_ext f g n (λ k l. h k (omega arith)) in
    let b : f n ≡ g n = h n (omega arith) in
    omega arith

pub sum_to_step : (f : ℕ → ℕ) (c n : ℕ) → c < n → sum_to f c + f c ≤ sum_to f n
sum_to_step f c zero h = absurd (not-suc-le-zero h)
sum_to_step f c (suc n) h =
    ⊎_elim
    (λ e. subst (λ (k : ℕ). sum_to f c + f c ≤ sum_to f k + f k) e (le_refl _))
    (λ l. omega (arith, sum_to_step f c n l))
    (eq-or-lt_of_le (le_of_suc-le-suc h))

pub sum_to_mono : (f : ℕ → ℕ) (c n : ℕ) → c ≤ n → sum_to f c ≤ sum_to f n
sum_to_mono f c n h = ⊎_elim (λ e. subst (λ (k : ℕ). sum_to f c ≤ sum_to f k) e (le_refl _)) (λ l. omega (arith, sum_to_step f c n l)) (eq-or-lt_of_le h)

pub sum_to_zero : (n : ℕ) → sum_to (λ _. 0) n ≡ 0
sum_to_zero zero = refl
sum_to_zero (suc n) = omega (arith, sum_to_zero n)

pub sum_to_const : (v n : ℕ) → sum_to (λ _. v) n ≡ n * v
sum_to_const v zero = sym (zero-mul v)
sum_to_const v (suc n) = rw (sum_to_const v n) (sym (suc-mul n v))

pub sum_to_add : (f g : ℕ → ℕ) (n : ℕ) → sum_to (λ k. f k + g k) n ≡ sum_to f n + sum_to g n
sum_to_add f g zero = refl
sum_to_add f g (suc n) = omega (arith, sum_to_add f g n)

module _ {A : Type 0} where
  pub sum_over_ext : (f g : A → ℕ) (l : List A) → All (λ x. f x ≡ g x) l → sum_over f l ≡ sum_over g l
  sum_over_ext f g [] h = refl
  sum_over_ext f g (x ∷ l) h = omega (arith, h.0, sum_over_ext f g l h.1)

  -- the sum over a list of sums is the sum of the sums over the list
  pub sum_swap : (f : A → ℕ → ℕ) (l : List A) (n : ℕ) → sum_to (λ c. sum_over (λ x. f x c) l) n ≡ sum_over (λ x. sum_to (f x) n) l
  sum_swap f [] n = sum_to_zero n
  sum_swap f (x ∷ l) n = sum_to_add (f x) (λ c. sum_over (λ y. f y c) l) n ∙ ap (λ (k : ℕ). sum_to (f x) n + k) (sum_swap f l n)
