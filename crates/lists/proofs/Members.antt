-- Laws of `In`, `NoDup`, `All`, `holds` and `Rises`.
-- Assumes nothing.
use mathlib.Core.Path.{◌≡◌, refl, sym, ap, subst}
use mathlib.Core.Logic.{◌⊎◌, inl, inr, ⊎_elim}
use mathlib.Core.Bool.{Bool, true, false, ◌||◌, false≢true}
use mathlib.Core.List.Memᴰ
use mathlib.Core.List.{List, [], ◌∷◌, ◌++◌, map, Memᴰ}
use Prim.Native.Nat.{ℕ, zero, suc, ◌+◌, ◌-◌, ◌≤◌, ◌<◌}
use native.Mathlib.Nat.{le_of_suc-le-suc, not-suc-le-zero, le_refl, le_trans, add-zero, add-suc, suc-add}
use native.Mathlib.Omega.{arith}
use lib.Dec.{eqb}
use borrow.Author.Tests.{eqb-true, eq-eqb}
use lib.ListN.{length, get_or, take, drop}
use Rattle.lists.specs.Parts.{part}
use Rattle.lists.specs.Members.{In, All, holds, Rises}

module _ {A : Type 0} where
  -- ---- the library's membership

  pub in_mem : (x : A) (l : List A) → In x l → Memᴰ x l
  in_mem x [] i = absurd i
  in_mem x (y ∷ l) i = ⊎_elim (λ e. Memᴰ.head e) (λ k. Memᴰ.tail (in_mem x l k)) i

  pub mem_in : (x : A) (l : List A) → Memᴰ x l → In x l
  mem_in x [] m = absurd (Memᴰ.not-nil m)
  mem_in x (y ∷ l) m = ⊎_elim (λ e. inl e) (λ k. inr (mem_in x l k)) (Memᴰ.cases_cons m)

  -- ---- what is in lists that are joined, and at a place

  pub in_left : (x : A) (xs ys : List A) → In x xs → In x (xs ++ ys)
  in_left x [] ys i = absurd i
  in_left x (y ∷ xs) ys i = ⊎_elim inl (λ k. inr (in_left x xs ys k)) i

  pub in_right : (x : A) (xs ys : List A) → In x ys → In x (xs ++ ys)
  in_right x [] ys i = i
  in_right x (y ∷ xs) ys i = inr (in_right x xs ys i)

  pub in_either : (x : A) (xs ys : List A) → In x (xs ++ ys) → In x xs ⊎ In x ys
  in_either x [] ys i = inr i
  in_either x (y ∷ xs) ys i = ⊎_elim (λ k. inl (inl k)) (λ k. ⊎_elim (λ l. inl (inr l)) inr (in_either x xs ys k)) i

  pub in_at : (l : List A) (i : ℕ) (d : A) → i < length l → In (get_or l i d) l
  in_at [] i d h = absurd (not-suc-le-zero h)
  in_at (x ∷ l) zero d h = inl refl
  in_at (x ∷ l) (suc i) d h = inr (in_at l i d (le_of_suc-le-suc h))

  -- the place of what is in a list
  pub at_in : (x : A) (l : List A) (d : A) → In x l → (i : ℕ) × (i < length l) × (get_or l i d ≡ x)
  at_in x [] d i = absurd i
  at_in x (y ∷ l) d i = ⊎_elim (λ e. (0, omega arith, sym e)) (λ k. let (j, h, w) = at_in x l d k in (suc j, omega arith, w)) i

  -- ---- a property of every entry

  pub all_in : (P : A → Type 0) (l : List A) (x : A) → All P l → In x l → P x
  all_in P [] x h i = absurd i
  all_in P (y ∷ l) x h i = ⊎_elim (λ e. subst P (sym e) h.0) (λ k. all_in P l x h.1 k) i

  pub in_all : (P : A → Type 0) (l : List A) → ((x : A) → In x l → P x) → All P l
  in_all P [] h = tt
  in_all P (x ∷ l) h = (h x (inl refl), in_all P l (λ y i. h y (inr i)))

  pub all_at : (P : A → Type 0) (l : List A) (i : ℕ) (d : A) → All P l → i < length l → P (get_or l i d)
  all_at P [] i d h k = absurd (not-suc-le-zero k)
  all_at P (x ∷ l) zero d h k = h.0
  all_at P (x ∷ l) (suc i) d h k = all_at P l i d h.1 (le_of_suc-le-suc k)

  -- from what holds at every place
  pub at_all : (P : A → Type 0) (l : List A) (d : A) → ((i : ℕ) → i < length l → P (get_or l i d)) → All P l
  at_all P [] d h = tt
  at_all P (x ∷ l) d h = (h 0 (omega arith), at_all P l d (λ i k. h (suc i) (omega arith)))

  pub all_map : (P Q : A → Type 0) → ((x : A) → P x → Q x) → (l : List A) → All P l → All Q l
  all_map P Q f [] h = tt
  all_map P Q f (x ∷ l) h = (f x h.0, all_map P Q f l h.1)

  pub all_append : (P : A → Type 0) (xs ys : List A) → All P xs → All P ys → All P (xs ++ ys)
  all_append P [] ys a b = b
  all_append P (x ∷ xs) ys a b = (a.0, all_append P xs ys a.1 b)

  pub all_take : (P : A → Type 0) (n : ℕ) (l : List A) → All P l → All P (take n l)
  all_take P zero l h = tt
  all_take P (suc n) [] h = tt
  all_take P (suc n) (x ∷ l) h = (h.0, all_take P n l h.1)

  pub all_drop : (P : A → Type 0) (n : ℕ) (l : List A) → All P l → All P (drop n l)
  all_drop P zero l h = h
  all_drop P (suc n) [] h = tt
  all_drop P (suc n) (x ∷ l) h = all_drop P n l h.1

  pub all_part : (P : A → Type 0) (a e : ℕ) (l : List A) → All P l → All P (part a e l)
  all_part P a e l h = all_take P (e - a) (drop a l) (all_drop P a l h)

-- ---- what is in a list that is mapped

module _ {A B : Type 0} (f : A → B) where
  pub in_map : (x : A) (l : List A) → In x l → In (f x) (map f l)
  in_map x [] i = absurd i
  in_map x (y ∷ l) i = ⊎_elim (λ e. inl (ap f e)) (λ k. inr (in_map x l k)) i

  pub from_map : (y : B) (l : List A) → In y (map f l) → (x : A) × In x l × (f x ≡ y)
  from_map y [] h = absurd h
  from_map y (x ∷ l) h = ⊎_elim (λ e. (x, inl refl, sym e)) (λ i. let (z, j, e) = from_map y l i in (z, inr j, e)) h

  pub all_mapped : (P : B → Type 0) (l : List A) → All (λ x. P (f x)) l → All P (map f l)
  all_mapped P [] h = tt
  all_mapped P (x ∷ l) h = (h.0, all_mapped P l h.1)

-- ---- the test of membership

or_by : (t u : Bool) → (t || u) ≡ true → (t ≡ true) ⊎ (u ≡ true)
or_by true u e = inl refl
or_by false u e = inr e

or_right : (t : Bool) → (t || true) ≡ true
or_right true = refl
or_right false = refl

pub holds_in : (x : ℕ) (l : List ℕ) → holds x l ≡ true → In x l
holds_in x [] e = absurd (false≢true e)
holds_in x (y ∷ l) e = ⊎_elim (λ t. inl (eqb-true x y t)) (λ t. inr (holds_in x l t)) (or_by (eqb x y) (holds x l) e)

pub in_holds : (x : ℕ) (l : List ℕ) → In x l → holds x l ≡ true
in_holds x [] i = absurd i
in_holds x (y ∷ l) i = ⊎_elim (λ e. rw (eq-eqb x y e)) (λ k. rw (in_holds x l k) (or_right (eqb x y))) i

-- ---- numbers that do not fall

-- a stretch of a stretch
pub rises_sub : (l : List ℕ) (a m c n : ℕ) → a ≤ c → c + n ≤ a + m → Rises l a m → Rises l c n
rises_sub l a m c n h k r i p q = r i (omega arith) (omega arith)

-- the last is no less than the first
pub rises_le : (l : List ℕ) (c n : ℕ) → Rises l c n → get_or l c 0 ≤ get_or l (c + n) 0
rises_le l c zero r = rw add-zero (le_refl _)
rises_le l c (suc n) r =
    rw (add-suc, ← suc-add)
    (le_trans (r c (omega arith) (omega arith)) (rises_le l (suc c) n (rises_sub l c (suc n) (suc c) n (omega arith) (omega arith) r)))
