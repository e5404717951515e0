-- Laws of `counting` and `filter`.
-- Assumes nothing.
use mathlib.Core.Path.{◌≡◌, refl, sym, ap, ◌∙◌, subst}
use mathlib.Core.Logic.{inl, inr, ⊎_elim}
use mathlib.Core.Bool.{Bool, true, false}
use mathlib.Core.List.{List, [], ◌∷◌, ◌++◌}
use Prim.Native.Nat.{ℕ, zero, suc, ◌+◌, ◌-◌, ◌≤◌, ◌<◌}
use native.Mathlib.Nat.{le_refl, add-zero, not-suc-le-zero, eq-or-lt_of_le}
use native.Mathlib.Numerals.{add-one}
use native.Mathlib.Omega.{arith}
use lib.ListN.{length, get_or}
use Rattle.lists.specs.Lists.{counting, cons_if, bit, filter, sum_over}
use Rattle.lists.specs.Members.{In, NoDup, All}
use Rattle.lists.proofs.Cases.{eq_or_ne}

-- ---- the numbers

pub length_counting : (a n : ℕ) → length (counting a n) ≡ n
length_counting a zero = refl
length_counting a (suc n) = ap suc (length_counting (suc a) n)

pub get_d_counting : (a n i d : ℕ) → i < n → get_or (counting a n) i d ≡ a + i
get_d_counting a zero i d h = absurd (not-suc-le-zero h)
get_d_counting a (suc n) zero d h = omega arith
get_d_counting a (suc n) (suc i) d h = omega (arith, get_d_counting (suc a) n i d (omega arith))

pub counting_last : (a n : ℕ) → counting a (suc n) ≡ counting a n ++ ((a + n) ∷ [])
counting_last a zero = rw add-zero
counting_last a (suc n) = ap (λ (l : List ℕ). a ∷ l) (counting_last (suc a) n ∙ ap (λ (k : ℕ). counting (suc a) n ++ (k ∷ [])) (omega arith))

-- what holds of every number from a up to a + n
pub all_counting : (P : ℕ → Type 0) (a n : ℕ) → ((k : ℕ) → a ≤ k → k < a + n → P k) → All P (counting a n)
all_counting P a zero h = tt
all_counting P a (suc n) h = (h a (omega arith) (omega arith), all_counting P (suc a) n (λ k l m. h k (omega arith) (omega arith)))

pub in_counting : (k a n : ℕ) → a ≤ k → k < a + n → In k (counting a n)
in_counting k a zero h l = absurd (omega arith)
in_counting k a (suc n) h l = ⊎_elim inl (λ q. inr (in_counting k (suc a) n (above q) (omega arith))) (eq_or_ne k a)
  where
    above : (k ≡ a → ⊥) → suc a ≤ k
    above q = ⊎_elim (λ (e : a ≡ k). absurd (q (sym e))) (λ m. m) (eq-or-lt_of_le h)

pub counting_in : (k a n : ℕ) → In k (counting a n) → (a ≤ k) × (k < a + n)
counting_in k a zero i = absurd i
counting_in k a (suc n) i = ⊎_elim (λ e. (omega arith, omega arith)) (λ q. let w = counting_in k (suc a) n q in (omega (arith, w.0), omega (arith, w.1))) i

pub nodup_counting : (a n : ℕ) → NoDup (counting a n)
nodup_counting a zero = tt
nodup_counting a (suc n) = ((λ i. let w = counting_in a (suc a) n i in omega (arith, w.0)), nodup_counting (suc a) n)

-- ---- loops over ids: up, and down to 0

pub counting_up : (a n : ℕ) → a < n → counting a (n - a) ≡ a ∷ counting (a + 1) (n - (a + 1))
counting_up a n h =
    let e : n - a ≡ suc (n - (a + 1)) = omega arith in
    ap (counting a) e ∙ ap (λ (q : ℕ). a ∷ counting q (n - (a + 1))) (sym (add-one a))

pub counting_down : (a n : ℕ) → 0 < a → a ≤ n → counting (a - 1) (n - (a - 1)) ≡ (a - 1) ∷ counting a (n - a)
counting_down a n h l =
    let e : n - (a - 1) ≡ suc (n - a) = omega arith in
    let f : suc (a - 1) ≡ a = omega arith in
    rw (e, f)

pub counting_none : (a n : ℕ) → n ≤ a → counting a (n - a) ≡ []
counting_none a n h =
    let e : n - a ≡ 0 = omega arith in
    rw e

pub counting_all : (a n : ℕ) → a ≤ 0 → counting a (n - a) ≡ counting 0 n
counting_all a n h =
    let e : a ≡ 0 = omega arith in
    let f : n - 0 ≡ n = omega arith in
    rw (e, f)

pub filter_up : (p : ℕ → Bool) (a n : ℕ) → a < n → filter p (counting a (n - a)) ≡ cons_if (p a) a (filter p (counting (a + 1) (n - (a + 1))))
filter_up p a n h = ap (filter p) (counting_up a n h)

pub filter_down : (p : ℕ → Bool) (a n : ℕ) → 0 < a → a ≤ n → filter p (counting (a - 1) (n - (a - 1))) ≡ cons_if (p (a - 1)) (a - 1) (filter p (counting a (n - a)))
filter_down p a n h l = ap (filter p) (counting_down a n h l)

pub sum_over_down : (f : ℕ → ℕ) (a n : ℕ) → 0 < a → a ≤ n → sum_over f (counting (a - 1) (n - (a - 1))) ≡ f (a - 1) + sum_over f (counting a (n - a))
sum_over_down f a n h l = ap (sum_over f) (counting_down a n h l)

-- ---- what passes a test

pub bit_le : (b : Bool) → bit b ≤ 1
bit_le true = omega arith
bit_le false = omega arith

module _ {A : Type 0} where
  pub length_cons_if : (b : Bool) (x : A) (l : List A) → length (cons_if b x l) ≡ bit b + length l
  length_cons_if true x l = omega arith
  length_cons_if false x l = omega arith

  pub length_filter : (p : A → Bool) (l : List A) → length (filter p l) ≡ sum_over (λ x. bit (p x)) l
  length_filter p [] = refl
  length_filter p (x ∷ l) = length_cons_if (p x) x (filter p l) ∙ ap (λ (k : ℕ). bit (p x) + k) (length_filter p l)

  pub length_filter_le : (p : A → Bool) (l : List A) → length (filter p l) ≤ length l
  length_filter_le p [] = omega arith
  length_filter_le p (x ∷ l) = omega (arith, length_cons_if (p x) x (filter p l), length_filter_le p l, bit_le (p x))

  pub filter_append : (p : A → Bool) (xs ys : List A) → filter p (xs ++ ys) ≡ filter p xs ++ filter p ys
  filter_append p [] ys = refl
  filter_append p (x ∷ xs) ys = go (p x) (filter p (xs ++ ys)) (filter p xs) (filter_append p xs ys)
    where
      go : (t : Bool) (all front : List A) → all ≡ front ++ filter p ys → cons_if t x all ≡ cons_if t x front ++ filter p ys
      go true all front e = ap (λ (l : List A). x ∷ l) e
      go false all front e = e

  pub filter_ext : (p q : A → Bool) (l : List A) → All (λ x. p x ≡ q x) l → filter p l ≡ filter q l
  filter_ext p q [] h = refl
  filter_ext p q (x ∷ l) h = ap (λ (b : Bool). cons_if b x (filter p l)) h.0 ∙ ap (cons_if (q x) x) (filter_ext p q l h.1)

  pub filter_none : (p : A → Bool) (l : List A) → All (λ x. p x ≡ false) l → filter p l ≡ []
  filter_none p [] h = refl
  filter_none p (x ∷ l) h = rw h.0 (filter_none p l h.1)

  -- it is in the list and passes
  pub filter_in : (p : A → Bool) (x : A) (l : List A) → In x (filter p l) → In x l × (p x ≡ true)
  filter_in p x [] i = absurd i
  filter_in p x (y ∷ l) i = by (p y) refl (λ k. filter_in p x l k) i
    where
      by : (b : Bool) → p y ≡ b → (In x (filter p l) → In x l × (p x ≡ true)) → In x (cons_if b y (filter p l)) → In x (y ∷ l) × (p x ≡ true)
      by true e on k = ⊎_elim (λ q. (inl q, ap p q ∙ e)) (λ q. (inr (on q).0, (on q).1)) k
      by false e on k = (inr (on k).0, (on k).1)

  pub in_filter : (p : A → Bool) (x : A) (l : List A) → In x l → p x ≡ true → In x (filter p l)
  in_filter p x [] i e = absurd i
  in_filter p x (y ∷ l) i e = ⊎_elim here (λ k. there (p y) (in_filter p x l k e)) i
    where
      here : x ≡ y → In x (filter p (y ∷ l))
      here q = let t : p y ≡ true = ap p (sym q) ∙ e in rw t (inl q)

      there : (b : Bool) → In x (filter p l) → In x (cons_if b y (filter p l))
      there true k = inr k
      there false k = k

  pub nodup_filter : (p : A → Bool) (l : List A) → NoDup l → NoDup (filter p l)
  nodup_filter p [] h = tt
  nodup_filter p (x ∷ l) h = on (p x) (nodup_filter p l h.1)
    where
      on : (b : Bool) → NoDup (filter p l) → NoDup (cons_if b x (filter p l))
      on true k = ((λ i. h.0 (filter_in p x l i).0), k)
      on false k = k

-- what passes from a up is no more than what passes at all
pub suffix_le : (p : ℕ → Bool) (a n : ℕ) → a ≤ n → length (filter p (counting a (n - a))) ≤ length (filter p (counting 0 n))
suffix_le p zero n h = rw (counting_all 0 n (le_refl 0)) (le_refl _)
suffix_le p (suc a) n h =
    let e : suc a - 1 ≡ a = omega arith in
    let d : filter p (counting a (n - a)) ≡ cons_if (p a) a (filter p (counting (suc a) (n - suc a)))
    = subst (λ (k : ℕ). filter p (counting k (n - k)) ≡ cons_if (p k) k (filter p (counting (suc a) (n - suc a)))) e (filter_down p (suc a) n (omega arith) h) in
    omega (arith, suffix_le p a n (omega arith), ap length d, length_cons_if (p a) a (filter p (counting (suc a) (n - suc a))))
