-- The scaled value of a float, by the digits of its bit pattern.
-- Assumes nothing.
use mathlib.Core.Path.{◌≡◌, refl, sym, ap, ◌∙◌, subst}
use Prim.Native.Nat.{ℕ, suc, ◌+◌, ◌-◌, ◌*◌, ◌/◌, ◌%◌, ◌^◌, ◌≤◌, ◌<◌, zero-le, compare}
use native.Mathlib.Nat.{zero-mul, mul-one, mul_comm, mul_assoc, mul_left_comm, mul_right_comm, lt_of_lt_of_le, lt_of_le_of_lt, le_of_eq, le_trans, lt_irrefl, div-lt_iff_lt-mul, lt_of_mul-lt-mul_right, mul-lt-mul_of_pos_right, lt_of_not-le}
use native.Mathlib.Omega.{arith}
use mathlib.Core.Bool.{Bool, true, false, cond, false≢true}
use lib.IntN.{ℤ, pos}
use lib.Dec.{T, ltb, ltb→lt, nltb→le}
use borrow.Author.Tests.{le-ltb}
use lib.Pow.{pow_pos, pow-add, pow_mono}
use lib.Ieee.{Float, binary64, nan, inf, fin, up, down, to_bits, fits, lt, neg}
use lib.Ieee.Fits.{down_pos}
use lib.Ieee.Exact.{HasValue}
use lib.Ieee.Nearest.{closest, closest_same}
use Rattle.num.proofs.Whole.{yes, nay}
use Rattle.num.proofs.SqrtLaws.{Read, read_at, positive}
use Rattle.wkt_print.specs.Decimal.{scaled_of}
use Rattle.wkt.proofs.Numerals.{ten_le}
use Rattle.wkt_print.proofs.Limbs.{none}

abbrev pub nought : Float
nought = fin false 0 (pos 0)

abbrev pub limit : Float
limit = fin false 1 (pos 25)

abbrev top : Float
top = inf false

-- ---- below the limit
pub below : (x : Float) → lt nought x ≡ true → lt x limit ≡ true → lt x top ≡ true
unfolding lt
below nan p q = absurd (false≢true p)
below (inf true) p q = absurd (false≢true p)
below (inf false) p q = absurd (false≢true q)
below (fin s m e) p q = refl

small_is : (m : ℕ) (e : ℤ) → lt (fin false m e) limit ≡ ltb (m * up e) (33554432 * down e)
unfolding lt
small_is m e = ap (λ (x : ℕ). ltb x (33554432 * down e)) (mul-one (m * up e))

pub small_says : (m : ℕ) (e : ℤ) → lt (fin false m e) limit ≡ true → m * up e < 33554432 * down e
small_says m e h = ltb→lt (m * up e) (33554432 * down e) (yes (sym (small_is m e) ∙ h))

pub scaled_small : (p m : ℕ) (e : ℤ) → lt (fin false m e) limit ≡ true → scaled_of p (fin false m e) ≡ closest (m * up e * 10 ^ p) (down e)
unfolding scaled_of
scaled_small p m e h = ap (λ (b : Bool). cond b (closest (m * up e * 10 ^ p) (down e)) 0) (sym (small_is m e) ∙ h)

positive_not : (m : ℕ) (e : ℤ) → lt nought (fin true m e) ≡ true → ⊥
unfolding lt
positive_not m e h = false≢true h

pub scaled_large : (p : ℕ) (x : Float) → lt nought x ≡ true → lt x limit ≡ false → 0 ≡ scaled_of p x
unfolding scaled_of
scaled_large p nan a h = refl
scaled_large p (inf s) a h = refl
scaled_large p (fin false m e) a h = sym (ap (λ (b : Bool). cond b (closest (m * up e * 10 ^ p) (down e)) 0) (sym (small_is m e) ∙ h))
scaled_large p (fin true m e) a h = absurd (positive_not m e a)

zero_scaled : (p : ℕ) (a d : ℕ) (b : Bool) → 0 < d → a ≡ 0 → 0 ≡ cond b (closest (a * 10 ^ p) d) 0
zero_scaled p a d true D e = sym (none (a * 10 ^ p) d (lt_of_le_of_lt (le_of_eq (ap (λ (x : ℕ). x * 10 ^ p * 2) e ∙ ap (λ (x : ℕ). x * 2) (zero-mul (10 ^ p)))) D))
zero_scaled p a d false D e = refl

pub scaled_zero : (p : ℕ) (x : Float) → lt nought x ≡ false → lt x nought ≡ false → 0 ≡ scaled_of p x
unfolding scaled_of lt
scaled_zero p nan a h = refl
scaled_zero p (inf s) a h = refl
scaled_zero p (fin false m e) a h = zero_scaled p (m * up e) (down e) (ltb (m * up e) (33554432 * down e)) (down_pos e) (gone (nltb→le (0 * 1 * down e) (m * up e * 1) (nay a)))
  where
    gone : m * up e * 1 ≤ 0 * 1 * down e → m * up e ≡ 0
    gone g = omega (arith, mul-one (m * up e), zero-mul (down e))
scaled_zero p (fin true m e) a h = zero_scaled p (m * up e) (down e) (ltb (m * up e) (33554432 * down e)) (down_pos e) (gone (nltb→le 0 (m * up e * 1 + 0 * 1 * down e) (nay h)))
  where
    gone : m * up e * 1 + 0 * 1 * down e ≤ 0 → m * up e ≡ 0
    gone g = omega (arith, mul-one (m * up e), zero-mul (down e))

pub scaled_neg : (p : ℕ) (x : Float) → scaled_of p (neg x) ≡ scaled_of p x
unfolding scaled_of neg
scaled_neg p nan = refl
scaled_neg p (inf s) = refl
scaled_neg p (fin s m e) = refl

pub neg_not : (x : Float) → lt x nought ≡ true → lt (neg x) nought ≡ false
unfolding lt neg
neg_not nan h = refl
neg_not (inf true) h = refl
neg_not (inf false) h = absurd (false≢true h)
neg_not (fin true m e) h = le-ltb (m * up e * 1) (0 * 1 * down e) (omega (arith, zero-mul (down e)))
neg_not (fin false m e) h = absurd (no_less (down e) (m * up e * 1) (ltb→lt (m * up e * 1) (0 * 1 * down e) (yes h)))
  where
    no_less : (d a : ℕ) → a < 0 * 1 * d → ⊥
    no_less d a g = omega (arith, zero-mul d)

pub ten_small : (p : ℕ) → p ≤ 6 → 10 ^ p ≤ 1000000
ten_small p h = ten_le p 6 h

-- ---- by the digits of the pattern
pub value_closest : (s : Bool) (m : ℕ) (e : ℤ) (n c : ℕ) → HasValue (fin s m e) s n (2 ^ 1074) → closest (m * up e * c) (down e) ≡ closest (n * c) (2 ^ 1074)
value_closest s m e n c h =
    closest_same (m * up e * c) (down e) (n * c) (2 ^ 1074) (down_pos e) (pow_pos 1074)
    (mul_right_comm (m * up e) c (2 ^ 1074) ∙ ap (λ (x : ℕ). x * c) h.1 ∙ mul_right_comm n (down e) c)

shifted : (n c g : ℕ) → g ≤ 1074 → closest (n * 2 ^ g * c) (2 ^ 1074) ≡ closest (n * c) (2 ^ (1074 - g))
shifted n c g h =
    let e : g + (1074 - g) ≡ 1074 = omega arith in
    let q : 2 ^ 1074 ≡ 2 ^ g * 2 ^ (1074 - g) = ap (λ (x : ℕ). 2 ^ x) (sym e) ∙ pow-add 2 g (1074 - g) in
    closest_same (n * 2 ^ g * c) (2 ^ 1074) (n * c) (2 ^ (1074 - g)) (pow_pos 1074) (pow_pos (1074 - g))
    (regroup n (2 ^ g) c (2 ^ (1074 - g)) ∙ ap (λ (x : ℕ). n * c * x) (sym q))
  where
    regroup : (n g c k : ℕ) → n * g * c * k ≡ n * c * (g * k)
    regroup n g c k = simp (mul_assoc, mul_left_comm)

-- a float below the limit has few places before its point
room : (m : ℕ) (e : ℤ) (t g : ℕ) → HasValue (fin false m e) false ((t + 4503599627370496) * 2 ^ g) (2 ^ 1074) → m * up e < 33554432 * down e → g ≤ 1046
room m e t g v h = less (lt_of_not-le (λ (b : 1047 ≤ g). lt_irrefl (2 ^ 1099) (lt_of_le_of_lt (many b) few)))
  where
    less : g < 1047 → g ≤ 1046
    less h = omega arith

    few : (t + 4503599627370496) * 2 ^ g < 2 ^ 1099
    few = lt_of_mul-lt-mul_right (down e) (lt_of_le_of_lt (le_of_eq (sym v.1)) (lt_of_lt_of_le (mul-lt-mul_of_pos_right h (pow_pos 1074)) (le_of_eq (mul_right_comm 33554432 (down e) (2 ^ 1074)))))

    many : 1047 ≤ g → 2 ^ 1099 ≤ (t + 4503599627370496) * 2 ^ g
    many b = native.Mathlib.Nat.mul-le-mul (native.Mathlib.Nat.le-add_left 4503599627370496 t) (pow_mono b)

split : (n : ℕ) → (n ≡ 0 → ⊥) → n ≡ suc (n - 1)
split n h = omega (arith, h)

module _ (p : ℕ) (x : Float) (F : T (fits binary64 x)) (a : lt nought x ≡ true) (l : lt x limit ≡ true) where
  pub by_low : to_bits binary64 x / 4503599627370496 ≡ 0 → closest (to_bits binary64 x % 4503599627370496 * 10 ^ p) (2 ^ 1074) ≡ scaled_of p x
  by_low z =
      let k = positive x a (below x a l) in
      let t' = to_bits binary64 x % 4503599627370496 in
      let r : Read (fin false (suc k.0) k.1) 0 t' = subst (λ (f : ℕ). Read (fin false (suc k.0) k.1) f t') z (read_at x F k.0 k.1 k.2) in
      let l' : lt (fin false (suc k.0) k.1) limit ≡ true = subst (λ (y : Float). lt y limit ≡ true) k.2 l in
      ap (λ (y : ℕ). closest (y * 10 ^ p) (2 ^ 1074)) (sym (mul-one t'))
      ∙ sym (ap (scaled_of p) k.2 ∙ scaled_small p (suc k.0) k.1 l' ∙ value_closest false (suc k.0) k.1 (t' * 2 ^ 0) (10 ^ p) r)

  pub by_high : (to_bits binary64 x / 4503599627370496 ≡ 0 → ⊥)
      → (to_bits binary64 x / 4503599627370496 ≤ 1047) × (closest ((to_bits binary64 x % 4503599627370496 + 4503599627370496) * 10 ^ p) (2 ^ (1075 - to_bits binary64 x / 4503599627370496)) ≡ scaled_of p x)
  by_high z =
      let k = positive x a (below x a l) in
      let t' = to_bits binary64 x % 4503599627370496 in
      let f = to_bits binary64 x / 4503599627370496 in
      let r : Read (fin false (suc k.0) k.1) (suc (f - 1)) t' = subst (λ (g : ℕ). Read (fin false (suc k.0) k.1) g t') (split f z) (read_at x F k.0 k.1 k.2) in
      let l' : lt (fin false (suc k.0) k.1) limit ≡ true = subst (λ (y : Float). lt y limit ≡ true) k.2 l in
      let g = room (suc k.0) k.1 t' (f - 1) r.0 (small_says (suc k.0) k.1 l') in
      let few = deep f g z in (
        few.0,
        ap (λ (y : ℕ). closest ((t' + 4503599627370496) * 10 ^ p) (2 ^ y)) few.1
            ∙ sym (ap (scaled_of p) k.2 ∙ scaled_small p (suc k.0) k.1 l' ∙ value_closest false (suc k.0) k.1 ((t' + 4503599627370496) * 2 ^ (f - 1)) (10 ^ p) r.0 ∙ shifted (t' + 4503599627370496) (10 ^ p) (f - 1) few.2),
      )
    where
      deep : (f : ℕ) → f - 1 ≤ 1046 → (f ≡ 0 → ⊥) → (f ≤ 1047) × (1075 - f ≡ 1074 - (f - 1)) × (f - 1 ≤ 1074)
      deep f g z = (omega arith, omega (arith, z), omega arith)

-- ---- how large it is
cond_le : (b : Bool) (a n : ℕ) → (T b → a ≤ n) → cond b a 0 ≤ n
cond_le true a n h = h tt
cond_le false a n h = zero-le

pub closest_under : (a d c p : ℕ) → 0 < d → a < c * d → closest (a * 10 ^ p) d ≤ c * 10 ^ p
closest_under a d c p D h =
    le_trans (lib.Ieee.Fits.nearest-le (a * 10 ^ p / d) (compare (a * 10 ^ p % d * 2) d))
    ((div-lt_iff_lt-mul {k = d} D).1 (lt_of_lt_of_le (mul-lt-mul_of_pos_right h (ten_le 0 p zero-le)) (le_of_eq (mul_right_comm c d (10 ^ p)))))

pub scaled_bound : (p : ℕ) (x : Float) → scaled_of p x ≤ 33554432 * 10 ^ p
unfolding scaled_of
scaled_bound p nan = zero-le
scaled_bound p (inf s) = zero-le
scaled_bound p (fin s m e) = cond_le (ltb (m * up e) (33554432 * down e)) (closest (m * up e * 10 ^ p) (down e)) (33554432 * 10 ^ p) (λ t. closest_under (m * up e) (down e) 33554432 p (down_pos e) (ltb→lt (m * up e) (33554432 * down e) t))

-- the digits before the point
pub whole_bound : (c p q : ℕ) → q ≤ c * 10 ^ p → q / 10 ^ p < suc c
whole_bound c p q h =
    let z : 0 < 10 ^ p = ten_le 0 p zero-le in
    let e : suc c * 10 ^ p ≡ c * 10 ^ p + 10 ^ p = native.Mathlib.Nat.suc-mul c (10 ^ p) in
    (div-lt_iff_lt-mul {k = 10 ^ p} z).1 (omega arith)
