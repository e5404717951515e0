-- THE FLOOR AND THE CEILING ARE EXACT: of a finite float x, `floor` is the largest whole number not above x, and `ceil` the smallest not below, with nothing
-- rounded: IEEE 754's roundToIntegralTowardNegative and roundToIntegralTowardPositive. No other float is. A NaN, an infinity and a zero stay what they are.
-- Assumes nothing.
use Rattle.std.proofs.Common.{◌≡◌, ℕ, zero, suc, ◌+◌, ◌-◌, ◌*◌, ◌/◌, ◌%◌, ◌^◌, ◌<◌, ◌≤◌, Bool, true, false, not, T, ltb, ◌⊎◌, ℤ, pos, sym, refl, ap, ◌∙◌, subst, inl, inr, zero-le, mod-lt, div-lt_iff_lt-mul, add-mul, one-mul, div-add-mod', le-div_iff_mul-le, mul-one, div-mul-le_self, arith, ltb-false, ltb-true}
use mathlib.Core.Bool.{not-not}
use lib.Ieee.{Float, nan, inf, fin, binary64, up, down, neg, le, fits}
use lib.Ieee.Fits.{down_pos, round-fits}
use lib.Ieee.Exact.{HasValue}
use lib.Ieee.Back.{round_whole, whole_unique}
use Rattle.num.specs.Num.{down_to, floor_of, ceil_of, whole_number, IsFloor, IsCeiling}
use Rattle.num.proofs.Whole.{big_whole}
use Rattle.num.proofs.FloatOrder.{Le, Le-eq, value_le, le_value, neg_le, neg_neg, trans}
use Rattle.num.proofs.FloorLaws.{floor_whole, same_down, zero_of}
use Rattle.num.proofs.CompareLaws.{ceil_is}

-- ---- nothing is rounded. Below 2 ^ 52 the whole number is at most 2 ^ 52, and every whole number up to 2 ^ 53 is a float
few : (n : ℕ) → n < 2 ^ 52 + 1 → n ≤ 2 ^ 53
few n h = omega arith

below : (a b : ℕ) → 0 < b → a < 2 ^ 52 * b → a < (2 ^ 52 + 1) * b
below a b p h = omega arith

above : (a b : ℕ) → 0 < b → a < 2 ^ 52 * b → a + (b - 1) < (2 ^ 52 + 1) * b
above a b p h = omega arith

down_few : (s : Bool) (a b : ℕ) → 0 < b → a < 2 ^ 52 * b → down_to s a b < 2 ^ 52 + 1
down_few false a b p h = (div-lt_iff_lt-mul p).1 (below a b p h)
down_few true a b p h = (div-lt_iff_lt-mul p).1 (above a b p h)

small : (s : Bool) (m : ℕ) (e : ℤ) → m * up e < 2 ^ 52 * down e → HasValue (floor_of (fin s m e)) s (down_to s (m * up e) (down e)) 1
unfolding floor_of
small s m e h = round_whole binary64 s (down_to s (m * up e) (down e)) (few (down_to s (m * up e) (down e)) (down_few s (m * up e) (down e) (down_pos e) h))

-- from 2 ^ 52 on a float is a whole number, and is its own floor
large : (s : Bool) (m k : ℕ) → T (fits binary64 (fin s m (pos k))) → HasValue (floor_of (fin s m (pos k))) s (down_to s (m * up (pos k)) (down (pos k))) 1
large s m k t = rw (← floor_whole s m k t, same_down s (m * 2 ^ k)) (refl, refl)

by_size : (s : Bool) (m : ℕ) (e : ℤ) → T (fits binary64 (fin s m e)) → (m * up e < 2 ^ 52 * down e) ⊎ (2 ^ 52 * down e ≤ m * up e) → HasValue (floor_of (fin s m e)) s (down_to s (m * up e) (down e)) 1
by_size s m e t (inl h) = small s m e h
by_size s m e t (inr h) =
    let w = big_whole s m e t h in
    subst (λ (z : ℤ). HasValue (floor_of (fin s m z)) s (down_to s (m * up z) (down z)) 1) (sym w.1) (large s m w.0 (subst (λ (z : ℤ). T (fits binary64 (fin s m z))) w.1 t))

either : (a b : ℕ) (c : Bool) → ltb a b ≡ c → (a < b) ⊎ (b ≤ a)
either a b true e = inl (ltb-true a b e)
either a b false e = inr (ltb-false a b e)

value : (s : Bool) (m : ℕ) (e : ℤ) → T (fits binary64 (fin s m e)) → HasValue (floor_of (fin s m e)) s (down_to s (m * up e) (down e)) 1
value s m e t = by_size s m e t (either (m * up e) (2 ^ 52 * down e) _ refl)

-- ---- the quotient of whole numbers, rounded down
last_le : (a b : ℕ) → 0 < b → a + 1 ≤ a / b * b + b
last_le a b p =
    let e : a / b * b + a % b ≡ a = div-add-mod' a b in
    let l : a % b < b = mod-lt a p in
    omega arith

-- ---- ±a / b and the whole number under it, and every whole number n that is not above ±a / b
under : (s : Bool) (a b : ℕ) → 0 < b → Le s (down_to s a b * b) s (a * 1)
under false a b p = let h : a / b * b ≤ a = div-mul-le_self a b in omega arith
under true a b p = let h : a + (b - 1) + 1 ≤ (a + (b - 1)) / b * b + b = last_le (a + (b - 1)) b p in omega arith

more : (n b : ℕ) → (n + 1) * b ≡ n * b + b
more n b = add-mul n 1 b ∙ ap (λ (x : ℕ). n * b + x) (one-mul b)

most : (t : Bool) (n : ℕ) (s : Bool) (a b : ℕ) → 0 < b → Le t (n * b) s (a * 1) → Le t (n * 1) s (down_to s a b * 1)
most false n false a b p h = let k : n ≤ a / b = (le-div_iff_mul-le p).1 (omega arith) in omega arith
most false n true a b p h =
    let z : n ≡ 0 = zero_of n b p (omega arith) in
    let k : (a + (b - 1)) / b < 1 = (div-lt_iff_lt-mul p).1 (omega arith) in
    omega arith
most true n false a b p h = zero-le
most true n true a b p h =
    let k : (a + (b - 1)) / b < n + 1 = (div-lt_iff_lt-mul p).1 (omega (arith, more n b)) in omega arith

one : 0 < 1
one = omega arith

itself : (t : Bool) (n : ℕ) → HasValue (whole_number t n) t n 1
itself t n = (refl, ap (λ (x : ℕ). x * 1) (mul-one n))

-- ---- the floor
floor_fits : (s : Bool) (m : ℕ) (e : ℤ) → T (fits binary64 (floor_of (fin s m e)))
unfolding floor_of
floor_fits s m e = round-fits binary64 s (down_to s (m * up e) (down e)) 1

pub floor_exact : (s : Bool) (m : ℕ) (e : ℤ) → T (fits binary64 (fin s m e)) → IsFloor s m e (floor_of (fin s m e))
floor_exact s m e f =
    let x = fin s m e in
    let a = m * up e in
    let b = down e in
    let v = value s m e f in
    record {
      size = down_to s a b;
      exact = v;
      of_format = floor_fits s m e;
      not_above = le_value (floor_of x) x s (down_to s a b) 1 s a b one (down_pos e) v (refl, refl) (under s a b (down_pos e));
      largest = λ t n h. le_value (whole_number t n) (floor_of x) t n 1 s (down_to s a b) 1 one one (itself t n) v (most t n s a b (down_pos e) (value_le (whole_number t n) x t n 1 s a b (itself t n) (refl, refl) h));
    }

-- ---- the ceiling is the floor from the other side
value_neg : (r : Float) (s : Bool) (n : ℕ) → HasValue r (not s) n 1 → HasValue (neg r) s n 1
unfolding neg
value_neg nan s n v = v
value_neg (inf t) s n v = v
value_neg (fin t m e) s n v = (ap not v.0 ∙ not-not s, v.1)

neg_fits : (x : Float) → T (fits binary64 x) → T (fits binary64 (neg x))
unfolding fits neg
neg_fits nan f = f
neg_fits (inf s) f = f
neg_fits (fin s zero e) f = f
neg_fits (fin s (suc m) e) f = f

turn : (s : Bool) (m : ℕ) (e : ℤ) (g : Float) → IsFloor (not s) m e g → IsCeiling s m e (neg g)
unfolding neg
turn s m e g h = record {
  size = h.size;
  exact = value_neg g s h.size h.exact;
  of_format = neg_fits g h.of_format;
  not_below = subst (λ (z : Float). T (le z (neg g))) (neg_neg (fin s m e)) (neg_le g (fin (not s) m e) h.not_above);
  smallest = λ t n k. subst (λ (z : Float). T (le (neg g) z)) (neg_neg (whole_number t n)) (neg_le (whole_number (not t) n) g (h.largest (not t) n (neg_le (fin s m e) (whole_number t n) k)));
}

pub ceil_exact : (s : Bool) (m : ℕ) (e : ℤ) → T (fits binary64 (fin s m e)) → IsCeiling s m e (ceil_of (fin s m e))
unfolding neg
ceil_exact s m e f = subst (IsCeiling s m e) (ceil_is (fin s m e)) (turn s m e (floor_of (fin (not s) m e)) (floor_exact (not s) m e (neg_fits (fin s m e) f)))

-- ---- no other float is
same_size : (s : Bool) (a b : ℕ) → Le s (a * 1) s (b * 1) → Le s (b * 1) s (a * 1) → a ≡ b
same_size false a b h k = omega arith
same_size true a b h k = omega arith

module _ (s : Bool) (m : ℕ) (e : ℤ) (x y : Float) where
  not_more : (h : IsFloor s m e x) (k : IsFloor s m e y) → Le s (h.size * 1) s (k.size * 1)
  not_more h k =
      let a = h.size in
      let w = whole_number s a in
      let l = le_value w x s a 1 s a 1 one one (itself s a) h.exact (Le-eq s (a * 1) (a * 1) refl) in
      value_le w y s a 1 s k.size 1 (itself s a) k.exact (k.largest s a (trans w x (fin s m e) l h.not_above))

  not_less : (h : IsCeiling s m e x) (k : IsCeiling s m e y) → Le s (k.size * 1) s (h.size * 1)
  not_less h k =
      let a = h.size in
      let w = whole_number s a in
      let l = le_value x w s a 1 s a 1 one one h.exact (itself s a) (Le-eq s (a * 1) (a * 1) refl) in
      value_le y w s k.size 1 s a 1 k.exact (itself s a) (k.smallest s a (trans (fin s m e) x w h.not_below l))

same : (s : Bool) (x y : Float) (a b : ℕ) → T (fits binary64 x) → T (fits binary64 y) → HasValue x s a 1 → HasValue y s b 1 → Le s (a * 1) s (b * 1) → Le s (b * 1) s (a * 1) → x ≡ y
same s x y a b f g v w h k = whole_unique binary64 x y s b f g (subst (λ (n : ℕ). HasValue x s n 1) (same_size s a b h k) v) w

pub floor_only : (s : Bool) (m : ℕ) (e : ℤ) (x y : Float) → IsFloor s m e x → IsFloor s m e y → x ≡ y
floor_only s m e x y h k = same s x y h.size k.size h.of_format k.of_format h.exact k.exact (not_more s m e x y h k) (not_more s m e y x k h)

pub ceil_only : (s : Bool) (m : ℕ) (e : ℤ) (x y : Float) → IsCeiling s m e x → IsCeiling s m e y → x ≡ y
ceil_only s m e x y h k = same s x y h.size k.size h.of_format k.of_format h.exact k.exact (not_less s m e y x k h) (not_less s m e x y h k)

-- ---- what is not a finite float, and the zeros
pub record Kept (f : Float → Float) : Type 0 where
  pub of_nan : f nan ≡ nan
  pub of_infinity : (s : Bool) → f (inf s) ≡ inf s
  pub of_zero : (s : Bool) → f (fin s 0 (pos 0)) ≡ fin s 0 (pos 0)

floor_zero : (s : Bool) → floor_of (fin s 0 (pos 0)) ≡ fin s 0 (pos 0)
unfolding floor_of
floor_zero true = refl
floor_zero false = refl

ceil_zero : (s : Bool) → ceil_of (fin s 0 (pos 0)) ≡ fin s 0 (pos 0)
unfolding ceil_of
ceil_zero true = refl
ceil_zero false = refl

pub floor_kept : Kept floor_of
unfolding floor_of
floor_kept = record { of_nan = refl; of_infinity = λ s. refl; of_zero = floor_zero }

pub ceil_kept : Kept ceil_of
unfolding ceil_of
ceil_kept = record { of_nan = refl; of_infinity = λ s. refl; of_zero = ceil_zero }
