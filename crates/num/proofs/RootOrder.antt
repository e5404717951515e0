-- THE ORDER OF SQUARES IS THE ORDER OF ROOTS: for a float x above zero, a float u is not above the root of x where the rounded square of u is below x, and
-- a u above zero is not below the root where that square is above x. Rounding keeps the order, so the exact squares are in the order of the rounded ones; so
-- are then u and the root, in units of the smallest float; and rounding keeps that order too. Assumes nothing.
use Rattle.std.proofs.Common.{◌≡◌, ℕ, zero, suc, ◌+◌, ◌*◌, ◌/◌, ◌^◌, ◌<◌, ◌≤◌, Bool, true, false, not, T, ℤ, sym, refl, ap, ◌∙◌, subst, zero-le, le_trans, le_of_eq, lt_of_lt_of_le, lt_of_le_of_lt, le_of_lt, mul-le-mul_right, mul_assoc, mul_comm, lt_of_mul-lt-mul_right, mul-lt-mul_of_pos_right, mul-pos, lt_of_not-le, le-div_iff_mul-le, zero-mul, mul_right_comm, le_of_mul-le-mul_right, arith, ltb→lt, lt→ltb, pow_pos, pow-add}
use native.Mathlib.Nat.{mul-mul-mul_comm, div-le_of_le-mul}
use mathlib.Core.Bool.{false≢true}
use lib.Ieee.{Float, nan, inf, fin, binary64, up, down, round, mul, lt, le, is_nan, fits, of_bits}
use lib.Ieee.Fits.{down_pos, round-fits}
use lib.Ieee.Bits.{of_bits-to_bits, is_true}
use lib.Ieee.Exact.{HasValue, round_exact}
use lib.Ieee.Order.{round_mono}
use lib.Ieee.Nearest.{div_same}
use lib.Ieee.Positive.{above, first_pos}
use Rattle.num.specs.Ops.{◌⊗◌, zero_f}
use Rattle.num.specs.Root.{in_units, root_down, sqrt_of}
use Rattle.num.proofs.Whole.{yes, small, under_top}
use Rattle.num.proofs.FloatOrder.{on_test, trans, not_lt, lt_not_le}
use Rattle.num.proofs.RemLaws.{places}
use Rattle.num.proofs.RootLaws.{root_is, root_below, suc_le, le_of_squares}
use Rattle.num.proofs.SqrtLaws.{round_no_nan}
use Rattle.num.proofs.NearLaws.{same_bits}

-- ---- a float of the format is its own fraction, rounded
same_float : (v : Float) (s : Bool) (m : ℕ) (e : ℤ) → T (fits binary64 v) → T (fits binary64 (fin s m e)) → HasValue v s (m * up e) (down e) → v ≡ fin s m e
same_float nan s m e f g h = elim h [ ]
same_float (inf _) s m e f g h = elim h [ ]
same_float (fin t n d) s m e f g h =
    let z : fin t n d ≡ fin s n d = ap (λ (b : Bool). fin b n d) h.0 in
    let w = 2 ^ 1074 in
    let i : in_units (fin s n d) ≡ in_units (fin s m e) =
    div_same (n * up d * w) (down d) (m * up e * w) (down e) (down_pos d) (down_pos e)
    (mul_right_comm (n * up d) w (down e) ∙ ap (λ (x : ℕ). x * w) h.1 ∙ mul_right_comm (m * up e) (down d) w) in
    z ∙ sym (of_bits-to_bits binary64 (fin s n d) (subst (λ (v : Float). T (fits binary64 v)) z f)) ∙ ap (of_bits binary64) (same_bits s n d m e i) ∙ of_bits-to_bits binary64 (fin s m e) g

pub round_self : (s : Bool) (m : ℕ) (e : ℤ) → T (fits binary64 (fin s m e)) → round binary64 s (m * up e) (down e) ≡ fin s m e
round_self s m e t =
    let p = places s m e t in
    let k = p.0 in
    let w = 2 ^ 1074 in
    let h : m * up e * w ≡ m * 2 ^ k * down e = mul_assoc m (up e) w ∙ ap (λ (x : ℕ). m * x) p.1 ∙ sym (mul_assoc m (2 ^ k) (down e)) in
    let l : m * 2 ^ k < 2 ^ (1074 + 1024) =
    lt_of_mul-lt-mul_right (down e)
    (lt_of_le_of_lt (le_of_eq (sym h))
    (lt_of_lt_of_le (mul-lt-mul_of_pos_right (under_top s m e t) (pow_pos 1074))
    (le_of_eq (mul_right_comm (2 ^ 1024) (down e) w ∙ ap (λ (x : ℕ). x * down e) (mul_comm (2 ^ 1024) w ∙ sym (pow-add 2 1074 1024)))))) in
    same_float (round binary64 s (m * up e) (down e)) s m e (round-fits binary64 s (m * up e) (down e)) t (round_exact binary64 s (m * up e) (down e) m k (down_pos e) (small s m e t) l h)

-- ---- what is no NaN is not above the infinity, and nothing is above it
pub le_endless : (x : Float) → is_nan x ≡ false → T (le x (inf false))
unfolding le is_nan
le_endless nan h = absurd (false≢true (sym h))
le_endless (inf true) h = tt
le_endless (inf false) h = tt
le_endless (fin s m e) h = tt

pub none_above : (y : Float) → T (lt (inf false) y) → ⊥
unfolding lt
none_above nan h = h
none_above (inf t) h = h
none_above (fin t n d) h = h

-- what the test `0.0 < x` says
pub above_zero : (x : Float) → lt zero_f x ≡ true → T (above x)
unfolding lt of_bits
above_zero nan h = yes h
above_zero (inf true) h = yes h
above_zero (inf false) h = tt
above_zero (fin true m e) h = yes h
above_zero (fin false m e) h = lt→ltb 0 m (first_pos m (up e) (some (m * up e) (down e) (ltb→lt (0 * 1 * down e) (m * up e * 1) (yes h))))
  where
    some : (a d : ℕ) → 0 * 1 * d < a * 1 → 0 < a
    some a d h = omega arith

-- ---- squares and roots of whole numbers: u is U / D, which is Y units of 1 / W, and x is X / E
module _ (U D X E Y W : ℕ) (Dp : 0 < D) (Ep : 0 < E) (v : U * W ≡ Y * D) where
  left : Y * Y * E * (D * D) ≡ U * U * E * (W * W)
  left =
      let a : Y * Y * E * (D * D) ≡ Y * D * (Y * D) * E = mul_right_comm (Y * Y) E (D * D) ∙ ap (λ (x : ℕ). x * E) (sym (mul-mul-mul_comm Y D Y D)) in
      let b : Y * D * (Y * D) * E ≡ U * W * (U * W) * E = ap (λ (x : ℕ). x * x * E) (sym v) in
      a ∙ b ∙ ap (λ (x : ℕ). x * E) (mul-mul-mul_comm U W U W) ∙ mul_right_comm (U * U) (W * W) E

  right : X * (D * D) * (W * W) ≡ X * (W * W) * (D * D)
  right = mul_right_comm X (D * D) (W * W)

  below_root : U * U * E ≤ X * (D * D) → Y ≤ root_down (X * (W * W) / E)
  below_root h =
      let q : Y * Y ≤ X * (W * W) / E =
      (le-div_iff_mul-le Ep).1 (le_of_mul-le-mul_right (le_trans (le_of_eq left) (le_trans (mul-le-mul_right (W * W) h) (le_of_eq right))) (mul-pos Dp Dp)) in
      suc_le Y (root_down (X * (W * W) / E)) (root_below Y (root_down (X * (W * W) / E) + 1) (lt_of_le_of_lt q (root_is (X * (W * W) / E)).1))

  above_root : X * (D * D) ≤ U * U * E → root_down (X * (W * W) / E) ≤ Y
  above_root h =
      let q : X * (W * W) / E ≤ Y * Y =
      div-le_of_le-mul E
      (le_trans (le_of_mul-le-mul_right (le_trans (le_of_eq (sym right)) (le_trans (mul-le-mul_right (W * W) h) (le_of_eq (sym left)))) (mul-pos Dp Dp)) (le_of_eq (mul_comm (Y * Y) E))) in
      le_of_squares (root_down (X * (W * W) / E)) Y (le_trans (root_is (X * (W * W) / E)).0 q)

-- ---- the two laws for finite floats
unless : (a b : ℕ) → (b ≤ a → ⊥) → a ≤ b
unless a b f = le_of_lt (lt_of_not-le f)

four : 4 ^ 1074 ≡ 2 ^ 1074 * 2 ^ 1074
four = refl

pub zero_rounded : zero_f ≡ round binary64 false 0 1
unfolding of_bits round
zero_rounded = refl

root_is_rounded : (m : ℕ) (e : ℤ) → sqrt_of (fin false (suc m) e) ≡ round binary64 false (root_down (suc m * up e * (2 ^ 1074 * 2 ^ 1074) / down e)) (2 ^ 1074)
unfolding sqrt_of
root_is_rounded m e = ap (λ (x : ℕ). round binary64 false (root_down (suc m * up e * x / down e)) (2 ^ 1074)) four

module _ (m : ℕ) (e : ℤ) (n : ℕ) (d : ℤ) (fx : T (fits binary64 (fin false (suc m) e))) (fu : T (fits binary64 (fin false n d))) where
  units : (k : ℕ) × (n * up d * 2 ^ 1074 ≡ n * 2 ^ k * down d)
  units =
      let p = places false n d fu in
      (p.0, mul_assoc n (up d) (2 ^ 1074) ∙ ap (λ (x : ℕ). n * x) p.1 ∙ sym (mul_assoc n (2 ^ p.0) (down d)))

  square_is : fin false n d ⊗ fin false n d ≡ round binary64 false (n * up d * (n * up d)) (down d * down d)
  unfolding mul
  square_is = refl

  from_fin : T (lt (fin false n d ⊗ fin false n d) (fin false (suc m) e)) → T (le (fin false n d) (sqrt_of (fin false (suc m) e)))
  from_fin h =
      let U = n * up d in
      let D = down d in
      let X = suc m * up e in
      let E = down e in
      let W = 2 ^ 1074 in
      let R = root_down (X * (W * W) / E) in
      let q : U * U * E ≤ X * (D * D) =
      unless (U * U * E) (X * (D * D))
      (λ (g : X * (D * D) ≤ U * U * E).
      lt_not_le (fin false n d ⊗ fin false n d) (fin false (suc m) e) h
      (subst (λ (z : Float). T (le (fin false (suc m) e) z)) (sym square_is) (subst (λ (z : Float). T (le z (round binary64 false (U * U) (D * D)))) (round_self false (suc m) e fx)
      (round_mono binary64 X E (U * U) (D * D) (down_pos e) (mul-pos (down_pos d) (down_pos d)) g)))) in
      let r : n * 2 ^ units.0 ≤ R = below_root U D X E (n * 2 ^ units.0) W (down_pos d) (down_pos e) units.1 q in
      subst (λ (z : Float). T (le (fin false n d) z)) (sym (root_is_rounded m e))
      (subst (λ (z : Float). T (le z (round binary64 false R W))) (round_self false n d fu)
      (round_mono binary64 U D R W (down_pos d) (pow_pos 1074) (le_trans (le_of_eq units.1) (mul-le-mul_right D r))))

  to_fin : T (lt (fin false (suc m) e) (fin false n d ⊗ fin false n d)) → T (le (sqrt_of (fin false (suc m) e)) (fin false n d))
  to_fin h =
      let U = n * up d in
      let D = down d in
      let X = suc m * up e in
      let E = down e in
      let W = 2 ^ 1074 in
      let R = root_down (X * (W * W) / E) in
      let q : X * (D * D) ≤ U * U * E =
      unless (X * (D * D)) (U * U * E)
      (λ (g : U * U * E ≤ X * (D * D)).
      lt_not_le (fin false (suc m) e) (fin false n d ⊗ fin false n d) h
      (subst (λ (z : Float). T (le z (fin false (suc m) e))) (sym square_is) (subst (λ (z : Float). T (le (round binary64 false (U * U) (D * D)) z)) (round_self false (suc m) e fx)
      (round_mono binary64 (U * U) (D * D) X E (mul-pos (down_pos d) (down_pos d)) (down_pos e) g)))) in
      let r : R ≤ n * 2 ^ units.0 = above_root U D X E (n * 2 ^ units.0) W (down_pos d) (down_pos e) units.1 q in
      subst (λ (z : Float). T (le z (fin false n d))) (sym (root_is_rounded m e))
      (subst (λ (z : Float). T (le (round binary64 false R W) z)) (round_self false n d fu)
      (round_mono binary64 R W U D (pow_pos 1074) (down_pos d) (le_trans (mul-le-mul_right D r) (le_of_eq (sym units.1)))))

-- ---- THE LAWS, infinities included. The first holds of a u of either sign, for the root is not negative
pub root_least : (x : Float) → T (above x) → T (le zero_f (sqrt_of x))
root_least nan p = absurd p
root_least (inf true) p = absurd p
root_least (inf false) p = unfold sqrt_of le lt of_bits in tt
root_least (fin true m e) p = absurd p
root_least (fin false zero e) p = absurd p
root_least (fin false (suc m) e) p =
    subst (λ (z : Float). T (le z (sqrt_of (fin false (suc m) e)))) (sym zero_rounded) (subst (λ (z : Float). T (le (round binary64 false 0 1) z)) (sym (root_is_rounded m e))
    (round_mono binary64 0 1 (root_down (suc m * up e * (2 ^ 1074 * 2 ^ 1074) / down e)) (2 ^ 1074) (pow_pos 0) (pow_pos 1074) (le_trans (le_of_eq (zero-mul (2 ^ 1074))) zero-le)))

from_above : (x u : Float) → T (fits binary64 x) → T (fits binary64 u) → T (above x) → T (above u) → T (lt (u ⊗ u) x) → T (le u (sqrt_of x))
unfolding mul lt
from_above nan u fx fu p q h = absurd p
from_above (inf true) u fx fu p q h = absurd p
from_above (inf false) nan fx fu p q h = absurd q
from_above (inf false) (inf true) fx fu p q h = absurd q
from_above (inf false) (inf false) fx fu p q h = absurd h
from_above (inf false) (fin true n d) fx fu p q h = absurd q
from_above (inf false) (fin false n d) fx fu p q h = unfold sqrt_of le in tt
from_above (fin true m e) u fx fu p q h = absurd p
from_above (fin false zero e) u fx fu p q h = absurd p
from_above (fin false (suc m) e) nan fx fu p q h = absurd q
from_above (fin false (suc m) e) (inf true) fx fu p q h = absurd q
from_above (fin false (suc m) e) (inf false) fx fu p q h = absurd h
from_above (fin false (suc m) e) (fin true n d) fx fu p q h = absurd q
from_above (fin false (suc m) e) (fin false n d) fx fu p q h = from_fin m e n d fx fu h

a_number : (x u : Float) → T (lt (u ⊗ u) x) → T (not (is_nan u))
unfolding mul lt is_nan
a_number x nan h = h
a_number x (inf s) h = tt
a_number x (fin s m e) h = tt

zero_number : T (not (is_nan zero_f))
unfolding is_nan of_bits
zero_number = tt

pub root_from : (x u : Float) → T (fits binary64 x) → T (fits binary64 u) → T (above x) → T (lt (u ⊗ u) x) → T (le u (sqrt_of x))
root_from x u fx fu p h =
    on_test (lt zero_f u) (λ t. from_above x u fx fu p (above_zero u (is_true (lt zero_f u) t)) h)
    (λ t. trans u zero_f (sqrt_of x) (not_lt u zero_f (a_number x u h) zero_number t) (root_least x p))

pub root_to : (x u : Float) → T (fits binary64 x) → T (fits binary64 u) → T (above x) → T (above u) → T (lt x (u ⊗ u)) → T (le (sqrt_of x) u)
root_to nan u fx fu p q h = absurd p
root_to (inf true) u fx fu p q h = absurd p
root_to (inf false) u fx fu p q h = absurd (none_above (u ⊗ u) h)
root_to (fin true m e) u fx fu p q h = absurd p
root_to (fin false zero e) u fx fu p q h = absurd p
root_to (fin false (suc m) e) nan fx fu p q h = absurd q
root_to (fin false (suc m) e) (inf true) fx fu p q h = absurd q
root_to (fin false (suc m) e) (inf false) fx fu p q h = le_endless (sqrt_of (fin false (suc m) e)) (ap is_nan (root_is_rounded m e) ∙ round_no_nan binary64 false _ _)
root_to (fin false (suc m) e) (fin true n d) fx fu p q h = absurd q
root_to (fin false (suc m) e) (fin false n d) fx fu p q h = to_fin m e n d fx fu h
