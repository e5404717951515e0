-- Laws of `padded` and of clearing: a tail of one value, zero in every use.
-- Assumes nothing.
use mathlib.Core.Path.{◌≡◌, refl, sym, ap, ◌∙◌}
use mathlib.Core.Logic.{⊎_elim}
use mathlib.Core.List.{List, [], ◌++◌, append-nil}
use Prim.Native.Nat.{ℕ, zero, suc, ◌+◌, ◌-◌, ◌≤◌, ◌<◌}
use native.Mathlib.Nat.{sub-zero}
use native.Mathlib.Numerals.{add-one}
use native.Mathlib.Omega.{arith}
use lib.ListN.{length, get_or, set, take, replicate, length-append, length-set, length-replicate, drop_of_length-le, get_or-append}
use lib.Seq.{sets, sets-eq, take_all, ext_get_or, get_or-append-add}
use Rattle.lists.specs.Lists.{listed}
use Rattle.lists.specs.Parts.{Has, padded}
use Rattle.lists.proofs.Cases.{lt_or_le}
use Rattle.lists.proofs.Joined.{length_listed, get_d_listed}

module _ {A : Type 0} (z : A) where
  -- ---- clearing from n on: the loop is at i, and what is still to be cleared from i on makes of l what clearing makes of l₀

  pub record Clearing (l₀ : List A) (n : ℕ) (l : List A) (i : ℕ) : Type 0 where
    pub long : length l ≡ length l₀
    pub left : sets l i (replicate (length l₀ - i) z) ≡ sets l₀ n (replicate (length l₀ - n) z)

  pub clear_none : (l : List A) (n : ℕ) → Clearing l n l n
  clear_none l n = record { long = refl; left = refl }

  module _ (l₀ : List A) (n : ℕ) (l : List A) (i : ℕ) (c : Clearing l₀ n l i) where
    pub clear_more : i < length l₀ → Clearing l₀ n (set l i z) (i + 1)
    clear_more h =
        let e : length l₀ - i ≡ suc (length l₀ - (i + 1)) = omega arith in
        let step : sets l i (replicate (length l₀ - i) z) ≡ sets (set l i z) (i + 1) (replicate (length l₀ - (i + 1)) z) = rw (e, add-one) in
        record { long = length-set l i z ∙ c.long; left = sym step ∙ c.left }

    pub clear_all : length l₀ ≤ i → l ≡ take n l₀ ++ replicate (length l₀ - n) z
    clear_all h =
        let e : length l₀ - i ≡ 0 = omega arith in
        (rw e at c.left) ∙ ⊎_elim short long_enough (lt_or_le (length l₀) n)
      where
        short : length l₀ < n → sets l₀ n (replicate (length l₀ - n) z) ≡ take n l₀ ++ replicate (length l₀ - n) z
        short h =
            let e : length l₀ - n ≡ 0 = omega arith in
            rw (e, append-nil, take_all n l₀ (omega arith))

        long_enough : n ≤ length l₀ → sets l₀ n (replicate (length l₀ - n) z) ≡ take n l₀ ++ replicate (length l₀ - n) z
        long_enough h =
            let k : length l₀ ≤ n + length (replicate (length l₀ - n) z) = rw length-replicate (omega arith) in
            rw (sets-eq (replicate (length l₀ - n) z) l₀ n (rw length-replicate (omega arith)), drop_of_length-le l₀ k, append-nil)

  -- cleared from 0 on: all
  pub clear_whole : (l : List A) → take 0 l ++ replicate (length l - 0) z ≡ replicate (length l) z
  clear_whole l = ap (λ (n : ℕ). replicate n z) (sub-zero (length l))

  -- ---- a list and its padding

  pub get_d_zeros : (n k : ℕ) → get_or (replicate n z) k z ≡ z
  get_d_zeros zero k = refl
  get_d_zeros (suc n) zero = refl
  get_d_zeros (suc n) (suc k) = get_d_zeros n k

  pub padded_nil : (n : ℕ) → padded z n [] ≡ replicate n z
  padded_nil n = ap (λ (k : ℕ). replicate k z) (sub-zero n)

  pub length_padded : (n : ℕ) (l : List A) → length l ≤ n → length (padded z n l) ≡ n
  length_padded n l h = length-append l (replicate (n - length l) z) ∙ omega (arith, length-replicate (n - length l) z)

  pub get_d_padded : (n : ℕ) (l : List A) (k : ℕ) (d : A) → k < length l → get_or (padded z n l) k d ≡ get_or l k d
  get_d_padded n l k d h = get_or-append l (replicate (n - length l) z) d k h

  pub get_d_padding : (n : ℕ) (l : List A) (k : ℕ) → length l ≤ k → get_or (padded z n l) k z ≡ z
  get_d_padding n l k h =
      let e : length l + (k - length l) ≡ k = omega arith in
      ap (λ (q : ℕ). get_or (padded z n l) q z) (sym e) ∙ get_or-append-add l (replicate (n - length l) z) (k - length l) z ∙ get_d_zeros (n - length l) (k - length l)

  -- what clearing makes of a list with xs in front
  pub clear_padded : (l xs : List A) (n : ℕ) {k : List A} {m : ℕ} → n ≡ length xs → Has l 0 xs → m ≡ length l → k ≡ take n l ++ replicate (length l - n) z → k ≡ padded z m xs
  clear_padded l xs n e p q r = rw (r, e, p, q)

  -- a list by its entries: those of f, and then z
  pub padded_ext : (l : List A) (f : ℕ → A) (n : ℕ) → n ≤ length l → ((k : ℕ) → k < n → get_or l k z ≡ f k) → ((k : ℕ) → n ≤ k → get_or l k z ≡ z)
      → l ≡ padded z (length l) (listed f n)
  padded_ext l f n h below above =
      ext_get_or z l (padded z (length l) (listed f n)) (sym (length_padded (length l) (listed f n) (omega (arith, length_listed f n))))
      (λ i r. ⊎_elim (λ lo. low i lo) (λ hi. high i hi) (lt_or_le i n))
    where
      low : (i : ℕ) → i < n → get_or l i z ≡ get_or (padded z (length l) (listed f n)) i z
      low i lo = below i lo ∙ sym (get_d_padded (length l) (listed f n) i z (omega (arith, length_listed f n)) ∙ get_d_listed f n i z lo)

      high : (i : ℕ) → n ≤ i → get_or l i z ≡ get_or (padded z (length l) (listed f n)) i z
      high i hi = above i hi ∙ sym (get_d_padding (length l) (listed f n) i (omega (arith, length_listed f n)))
