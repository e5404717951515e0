-- THE POLYGONS SHARE THE POINTS OUT: in a sound site no point has two owners, so polygons that are named once each have no more points together than the site
-- has (`lens_most`). Assumes nothing.
use mathlib.Core.Path.{◌≡◌, refl, sym, ap, subst}
use mathlib.Core.Logic.{inl, inr}
use mathlib.Core.Bool.{Bool, true, false}
use mathlib.Core.List.{List, [], ◌∷◌}
use Prim.Native.Nat.{ℕ, zero, suc, ◌+◌, ◌≤◌, ◌<◌}
use native.Mathlib.Nat.{le_trans, le_of_eq, add-suc}
use native.Mathlib.Omega.{arith}
use borrow.Author.Tests.{eqb-true, eq-eqb, ne_eqb}
use lib.Dec.{eqb}
use Rattle.lists.specs.Lists.{bit, sum_to, sum_over}
use Rattle.lists.specs.Members.{In, NoDup, All, AllBelow}
use Rattle.lists.proofs.Members.{all_map}
use Rattle.lists.proofs.Sums.{sum_to_mono, sum_swap}
use Rattle.site.specs.declared.Site.{Site}
use Rattle.site.specs.Tables.{Tables, first_of, len_of, owner_at}
use Rattle.site.specs.Soundness.{Sound}

-- ---- sums
sum_le : {A : Type 0} (f g : A → ℕ) (l : List A) → All (λ x. f x ≤ g x) l → sum_over f l ≤ sum_over g l
sum_le f g [] h = omega arith
sum_le f g (x ∷ l) h = omega (arith, h.0, sum_le f g l h.1)

-- of n numbers that are 0 or 1
sum_few : (f : ℕ → ℕ) (n : ℕ) → ((i : ℕ) → f i ≤ 1) → sum_to f n ≤ n
sum_few f zero h = omega arith
sum_few f (suc n) h = omega (arith, sum_few f n h, h n)

-- n ones in a row
sum_run : (f : ℕ → ℕ) (a n : ℕ) → ((j : ℕ) → j < n → f (a + j) ≡ 1) → n ≤ sum_to f (a + n)
sum_run f a zero h = omega arith
sum_run f a (suc n) h =
    let e : f (a + n) ≡ 1 = h n (omega arith) in
    let g : n ≤ sum_to f (a + n) = sum_run f a n (λ j l. h j (omega arith)) in
    rw add-suc (omega arith)

-- ---- a number stands at most once in a list without repeats
in_none : (x : ℕ) (l : List ℕ) → (In x l → ⊥) → sum_over (λ k. bit (eqb x k)) l ≡ 0
in_none x [] h = refl
in_none x (k ∷ l) h = omega (arith, ap bit (ne_eqb x k (λ e. h (inl e))), in_none x l (λ i. h (inr i)))

in_once : (x : ℕ) (l : List ℕ) → NoDup l → sum_over (λ k. bit (eqb x k)) l ≤ 1
in_once x [] h = omega arith
in_once x (k ∷ l) h = by (eqb x k) refl (in_once x l h.1)
  where
    by : (b : Bool) → eqb x k ≡ b → sum_over (λ k. bit (eqb x k)) l ≤ 1 → bit b + sum_over (λ k. bit (eqb x k)) l ≤ 1
    by true e g = omega (arith, in_none x l (λ i. h.0 (subst (λ (y : ℕ). In y l) (eqb-true x k e) i)))
    by false e g = omega arith

-- of m places, each of which one number owns, so many are owned by k
abbrev pub held_of : (ℕ → ℕ) → ℕ → ℕ → ℕ
held_of owner m k = sum_to (λ i. bit (eqb (owner i) k)) m

-- and by the numbers of a list without repeats no more than m
pub held_most : (owner : ℕ → ℕ) (m : ℕ) (l : List ℕ) → NoDup l → sum_over (held_of owner m) l ≤ m
held_most owner m l h =
    le_trans (le_of_eq (sym (sum_swap (λ (k i : ℕ). bit (eqb (owner i) k)) l m)))
    (sum_few (λ i. sum_over (λ k. bit (eqb (owner i) k)) l) m (λ i. in_once (owner i) l h))

-- ---- in a sound site
module _ (site : Site) (t : Tables) (S : Sound site t) where
  -- a polygon owns the points of its part
  held_all : (k : ℕ) → k < site.polygons → len_of t.polygons k ≤ held_of (owner_at t.owners) site.points k
  held_all k h =
      let f : ℕ → ℕ = λ i. bit (eqb (owner_at t.owners i) k) in
      le_trans (sum_run f (first_of t.polygons k) (len_of t.polygons k) (λ j g. ap bit (eq-eqb _ _ (S.one_owner k j h g))))
      (sum_to_mono f (first_of t.polygons k + len_of t.polygons k) site.points (S.inside k h))

  -- THE POINTS OF DISTINCT POLYGONS
  pub lens_most : (ids : List ℕ) → NoDup ids → AllBelow site.polygons ids → sum_over (len_of t.polygons) ids ≤ site.points
  lens_most ids once named =
      le_trans
      (sum_le (len_of t.polygons) (held_of (owner_at t.owners) site.points) ids (all_map (λ (k : ℕ). k < site.polygons) (λ (k : ℕ). len_of t.polygons k ≤ held_of (owner_at t.owners) site.points k) held_all ids named))
      (held_most (owner_at t.owners) site.points ids once)
