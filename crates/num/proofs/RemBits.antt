-- Rust's `%` on the bit patterns of floats, in whole numbers alone: the C library's remainder is not used, so a program needs nothing of that library.
-- A float is counted in units of the smallest one. Then it is r * 2 ^ k, with its bit pattern k * 2 ^ 52 + r where it is not negative. Assumes nothing.
use Rattle.std.proofs.Common.{◌≡◌, ℕ, zero, suc, ◌+◌, ◌-◌, ◌*◌, ◌/◌, ◌%◌, ◌^◌, ◌<◌, ◌≤◌, Bool, true, false, cond, T, eqb, ◌⊎◌, ℤ, sym, refl, ap, ◌∙◌, subst, inl, inr, true≢false, le_trans, le_of_eq, lt_of_lt_of_le, lt_of_le_of_lt, mul-le-mul_right, mod-eq_of_lt, zero-lt-suc, mul_assoc, mul_comm, lt_of_mul-lt-mul_right, mul-lt-mul_of_pos_right, mul-pos, zero-add, zero-mul, mul-one, div-one, eq-zero-or-pos, mul-div_cancel, add-one, arith, lit<, pow_pos, pow_mono, pow-add}
use native.Mathlib.Nat.{pow-succ', pow-suc}
use Rattle.std.proofs.lemmas.Nat.{mul-mod_first}
use lib.Ieee.{Float, nan, inf, fin, binary64, up, down, size, round, rem, neg, fits, to_bits, of_bits}
use lib.Ieee.Bits.{of_bits-to_bits}
use lib.Ieee.Digits.{size-le, size_reaches, back}
use lib.Ieee.Fits.{down_pos, kept-lt, round-fits}
use lib.Ieee.Exact.{HasValue, round_exact}
use lib.Ieee.Scale.{round_same}
use Rattle.num.specs.Root.{in_units}
use Rattle.num.proofs.Whole.{small, neg_round}
use Rattle.num.proofs.RemLaws.{places, under_all, rem_scaled, mod_scale, cond_not, not_zero}
use Rattle.num.proofs.NearLaws.{units_at, units_of_value, same_bits}
use Rattle.num.proofs.RootBits.{bits_of}

-- ---- long division, a binary digit at a time
pub doubled : (r k : ℕ) → 0 < k → r * 2 * 2 ^ (k - 1) ≡ r * 2 ^ k
doubled r k h =
    let e : suc (k - 1) ≡ k = omega arith in
    mul_assoc r 2 (2 ^ (k - 1)) ∙ ap (λ (x : ℕ). r * x) (sym (pow-succ' 2 (k - 1)) ∙ ap (λ (x : ℕ). 2 ^ x) e)

pub digit_up : (a k d : ℕ) → 2 * (a * 2 ^ k % d) % d ≡ a * 2 ^ (k + 1) % d
digit_up a k d =
    ap (λ (x : ℕ). x % d) (mul_comm 2 (a * 2 ^ k % d))
    ∙ mul-mod_first (a * 2 ^ k) 2 d
    ∙ ap (λ (x : ℕ). x % d) (mul_assoc a (2 ^ k) 2 ∙ ap (λ (x : ℕ). a * x) (sym (pow-suc 2 k)) ∙ ap (λ (x : ℕ). a * 2 ^ x) (sym (add-one k)))

-- ---- the bit pattern of z * 2 ^ q units
top_fits : (z q : ℕ) → z < 2 ^ 53 → q ≤ 2045 → z * 2 ^ q < 2 ^ 2098
top_fits z q a b = lt_of_lt_of_le (mul-lt-mul_of_pos_right a (pow_pos q)) (le_trans (le_of_eq (sym (pow-add 2 53 q))) (pow_mono (reach q b)))
  where
    reach : (q : ℕ) → q ≤ 2045 → 53 + q ≤ 2098
    reach q h = omega arith

bits_small : (v : Float) (z : ℕ) → z < 2 ^ 53 → HasValue v false z (2 ^ 1074) → to_bits binary64 v ≡ z
unfolding to_bits
bits_small nan z a h = elim h [ ]
bits_small (inf _) z a h = elim h [ ]
bits_small (fin true m e) z a h = absurd (true≢false h.0)
bits_small (fin false m e) z a h =
    let n : m * up e * 2 ^ 1074 / down e ≡ z = ap (λ (x : ℕ). x / down e) h.1 ∙ mul-div_cancel z (down_pos e) in
    let d : size z - 53 ≡ 0 = none (size z) (size-le z 53 a) in
    ap (λ (x : ℕ). 0 + (size x - 53) * 4503599627370496 + x / 2 ^ (size x - 53)) n
    ∙ ap (λ (x : ℕ). 0 + x * 4503599627370496 + z / 2 ^ x) d
    ∙ ap (λ (x : ℕ). 0 + 0 * 4503599627370496 + x) (div-one z)
    ∙ zero-add z
  where
    none : (s : ℕ) → s ≤ 53 → s - 53 ≡ 0
    none s h = omega arith

pub pattern_is : (z q m k : ℕ) → z * 2 ^ q ≡ m * 2 ^ k → z < 2 ^ 53 → q ≤ 2045 → (q ≡ 0) ⊎ (2 ^ 52 ≤ z) → q * 4503599627370496 + z ≡ to_bits binary64 (round binary64 false (m * 2 ^ k) (2 ^ 1074))
pattern_is z q m k e a b h = go h ∙ ap (λ (x : ℕ). to_bits binary64 (round binary64 false x (2 ^ 1074))) e
  where
    v : HasValue (round binary64 false (z * 2 ^ q) (2 ^ 1074)) false (z * 2 ^ q) (2 ^ 1074)
    v = round_exact binary64 false (z * 2 ^ q) (2 ^ 1074) z q (pow_pos 1074) a (top_fits z q a b) refl

    go : (q ≡ 0) ⊎ (2 ^ 52 ≤ z) → q * 4503599627370496 + z ≡ to_bits binary64 (round binary64 false (z * 2 ^ q) (2 ^ 1074))
    go (inr l) = sym (bits_of (round binary64 false (z * 2 ^ q) (2 ^ 1074)) z q l a v)
    go (inl n) =
        let w : z * 2 ^ q ≡ z = ap (λ (x : ℕ). z * 2 ^ x) n ∙ mul-one z in
        let u : q * 4503599627370496 + z ≡ z = omega arith in
        u ∙ sym (bits_small (round binary64 false (z * 2 ^ q) (2 ^ 1074)) z a (subst (λ (x : ℕ). HasValue (round binary64 false (z * 2 ^ q) (2 ^ 1074)) false x (2 ^ 1074)) w v))

-- ---- the units of a finite float, from its bit pattern b
abbrev pub exponent : ℕ → ℕ
exponent b = b / 4503599627370496 - 1

abbrev pub digits : ℕ → ℕ
digits b = b - exponent b * 4503599627370496

pub record Decoded (s : Bool) (v : Float) (b : ℕ) : Type 0 where
  pub sized : in_units v ≡ digits (b % 9223372036854775808) * 2 ^ exponent (b % 9223372036854775808)
  pub finite : b % 9223372036854775808 < 9218868437227405312
  pub sign : b ≡ cond s 9223372036854775808 0 + b % 9223372036854775808

decoded_at : (s : Bool) (v : Float) (b k r : ℕ) → b ≡ cond s 9223372036854775808 0 + k * 4503599627370496 + r → in_units v ≡ r * 2 ^ k → r < 9007199254740992 → (k ≡ 0) ⊎ (4503599627370496 ≤ r) → k ≤ 2045 → Decoded s v b
decoded_at s v b k r e u a h l =
    let c = at s e in
    let x = fields (b % 9223372036854775808) c.0 h in
    record {
      sized = u ∙ ap (λ (y : ℕ). y * 2 ^ k) (sym x.1) ∙ ap (λ (y : ℕ). digits (b % 9223372036854775808) * 2 ^ y) (sym x.0);
      finite = omega (arith, c.0);
      sign = c.1;
    }
  where
    at : (s : Bool) → b ≡ cond s 9223372036854775808 0 + k * 4503599627370496 + r → (b % 9223372036854775808 ≡ k * 4503599627370496 + r) × (b ≡ cond s 9223372036854775808 0 + b % 9223372036854775808)
    at true e = (omega arith, omega arith)
    at false e = (omega arith, omega arith)

    fields : (b : ℕ) → b ≡ k * 4503599627370496 + r → (k ≡ 0) ⊎ (4503599627370496 ≤ r) → (exponent b ≡ k) × (digits b ≡ r)
    fields b e (inl z) = (omega arith, omega arith)
    fields b e (inr z) = (omega arith, omega arith)

to_bits_at : (s : Bool) (m : ℕ) (e : ℤ) → to_bits binary64 (fin s m e) ≡ cond s 9223372036854775808 0 + (size (in_units (fin s m e)) - 53) * 4503599627370496 + in_units (fin s m e) / 2 ^ (size (in_units (fin s m e)) - 53)
unfolding to_bits
to_bits_at s m e = refl

pub decode : (s : Bool) (m : ℕ) (e : ℤ) (b : ℕ) → T (fits binary64 (fin s m e)) → b ≡ to_bits binary64 (fin s m e) → Decoded s (fin s m e) b
decode s m e b t h =
    let U = in_units (fin s m e) in
    let j = (places s m e t).0 in
    let a : U ≡ m * 2 ^ j = units_at s m e t in
    let k = size U - 53 in
    let kj : k ≤ j = spare (size U) j (size-le U (53 + j) (lt_of_le_of_lt (le_of_eq a) (lt_of_lt_of_le (mul-lt-mul_of_pos_right (small s m e t) (pow_pos j)) (le_of_eq (sym (pow-add 2 53 j)))))) in
    let cut : U ≡ m * 2 ^ (j - k) * 2 ^ k = a ∙ ap (λ (x : ℕ). m * 2 ^ x) (sym (back j k kj)) ∙ ap (λ (x : ℕ). m * x) (pow-add 2 (j - k) k) ∙ sym (mul_assoc m (2 ^ (j - k)) (2 ^ k)) in
    let kept : U / 2 ^ k ≡ m * 2 ^ (j - k) = ap (λ (x : ℕ). x / 2 ^ k) cut ∙ mul-div_cancel (m * 2 ^ (j - k)) (pow_pos k) in
    let whole : U ≡ U / 2 ^ k * 2 ^ k = cut ∙ ap (λ (x : ℕ). x * 2 ^ k) (sym kept) in
    let top : k ≤ 2045 = low (size U) (size-le U 2098 (lt_of_le_of_lt (le_of_eq a) (under_all s m e t))) in
    decoded_at s (fin s m e) b k (U / 2 ^ k) (h ∙ to_bits_at s m e) whole (kept-lt 53 U) (full U k (U / 2 ^ k) refl whole) top
  where
    spare : (z j : ℕ) → z ≤ 53 + j → z - 53 ≤ j
    spare z j h = omega arith

    low : (z : ℕ) → z ≤ 2098 → z - 53 ≤ 2045
    low z h = omega arith

    full : (U k r : ℕ) → k ≡ size U - 53 → U ≡ r * 2 ^ k → (k ≡ 0) ⊎ (4503599627370496 ≤ r)
    full U k r e w = elim (eq-zero-or-pos k) [
      | inl z ↦ inl z
      | inr p ↦
          let g : 52 + k < size U = omega arith in
          let first : 4503599627370495 < 2 ^ 52 = lit< tt in
          inr (le (lt_of_mul-lt-mul_right (2 ^ k) (lt_of_lt_of_le (mul-lt-mul_of_pos_right first (pow_pos k)) (le_trans (le_of_eq (sym (pow-add 2 52 k))) (le_trans (size_reaches U (52 + k) g) (le_of_eq w))))))
    ]
      where
        le : 4503599627370495 < r → 4503599627370496 ≤ r
        le h = omega arith

-- ---- a float of the format is its size in units, rounded
value_is : (v : Float) (s : Bool) (a c : ℕ) → HasValue v s a c → (m : ℕ) × (e : ℤ) × (v ≡ fin s m e)
value_is nan s a c h = elim h [ ]
value_is (inf _) s a c h = elim h [ ]
value_is (fin t m e) s a c h = (m, e, λ i. fin (h.0 i) m e)

round_back : (s : Bool) (m : ℕ) (e : ℤ) → T (fits binary64 (fin s m e)) → round binary64 s (in_units (fin s m e)) (2 ^ 1074) ≡ fin s m e
round_back s m e t =
    let U = in_units (fin s m e) in
    let R = round binary64 s U (2 ^ 1074) in
    let v : HasValue R s U (2 ^ 1074) = round_exact binary64 s U (2 ^ 1074) m (places s m e t).0 (pow_pos 1074) (small s m e t) (under_all s m e t) (ap (λ (x : ℕ). x * 2 ^ 1074) (units_at s m e t)) in
    let w = value_is R s U (2 ^ 1074) v in
    let same : in_units (fin s w.0 w.1) ≡ U = ap in_units (sym w.2) ∙ units_of_value R s U v in
    sym (of_bits-to_bits binary64 R (round-fits binary64 s U (2 ^ 1074)))
    ∙ ap (λ (x : Float). of_bits binary64 (to_bits binary64 x)) w.2
    ∙ ap (of_bits binary64) (same_bits s w.0 w.1 m e same)
    ∙ of_bits-to_bits binary64 (fin s m e) t

-- ---- the remainder in units
rem_units : (s : Bool) (m : ℕ) (e : ℤ) (t : Bool) (n : ℕ) (d : ℤ) → T (fits binary64 (fin s m e)) → T (fits binary64 (fin t (suc n) d))
    → rem binary64 (fin s m e) (fin t (suc n) d) ≡ round binary64 s (in_units (fin s m e) % in_units (fin t (suc n) d)) (2 ^ 1074)
unfolding rem
rem_units s m e t n d fx fy =
    let C = down e * down d in
    let A = m * up e * down d in
    let B = suc n * up d * down e in
    let X = m * 2 ^ (places s m e fx).0 in
    let Y = suc n * 2 ^ (places t (suc n) d fy).0 in
    cond_not (eqb (suc n) 0) nan (round binary64 s (A % B) C) (not_zero (suc n) (zero-lt-suc n))
    ∙ round_same binary64 s (A % B) C (X % Y) (2 ^ 1074) (mul-pos (down_pos e) (down_pos d)) (pow_pos 1074) (rem_scaled s t m e (suc n) d fx fy (zero-lt-suc n))
    ∙ ap (λ (z : ℕ). round binary64 s (z % Y) (2 ^ 1074)) (sym (units_at s m e fx))
    ∙ ap (λ (z : ℕ). round binary64 s (in_units (fin s m e) % z) (2 ^ 1074)) (sym (units_at t (suc n) d fy))

-- ---- the ways through the function where an argument is not finite, or y is zero
nan_at : (b : ℕ) → b ≡ to_bits binary64 nan → b % 9223372036854775808 ≡ 9221120237041090560
unfolding to_bits
nan_at b h = ap (λ (z : ℕ). z % 9223372036854775808) h

inf_at : (s : Bool) (b : ℕ) → b ≡ to_bits binary64 (inf s) → b % 9223372036854775808 ≡ 9218868437227405312
unfolding to_bits
inf_at true b h = ap (λ (z : ℕ). z % 9223372036854775808) h
inf_at false b h = ap (λ (z : ℕ). z % 9223372036854775808) h

pub no_x : (x y : Float) (b : ℕ) → T (fits binary64 x) → b ≡ to_bits binary64 x → 9218868437227405312 ≤ b % 9223372036854775808 → nan ≡ rem binary64 x y
unfolding rem
no_x nan y b f h l = refl
no_x (inf s) y b f h l = refl
no_x (fin s m e) y b f h l = let k = (decode s m e b f h).finite in absurd (omega arith)

pub no_y : (x y : Float) (c : ℕ) → T (fits binary64 y) → c ≡ to_bits binary64 y → 9218868437227405312 < c % 9223372036854775808 → nan ≡ rem binary64 x y
unfolding rem
no_y nan y c f h l = refl
no_y (inf s) y c f h l = refl
no_y (fin s m e) nan c f h l = refl
no_y (fin s m e) (inf t) c f h l = let k = inf_at t c h in absurd (omega arith)
no_y (fin s m e) (fin t n d) c f h l = let k = (decode t n d c f h).finite in absurd (omega arith)

pub endless_y : (x y : Float) (b c : ℕ) → T (fits binary64 y) → b ≡ to_bits binary64 x → c ≡ to_bits binary64 y → b % 9223372036854775808 < 9218868437227405312
    → c % 9223372036854775808 ≡ 9218868437227405312 → x ≡ rem binary64 x y
unfolding rem
endless_y nan y b c f h g l q = let k = nan_at b h in absurd (omega arith)
endless_y (inf s) y b c f h g l q = let k = inf_at s b h in absurd (omega arith)
endless_y (fin s m e) nan b c f h g l q = let k = nan_at c g in absurd (omega arith)
endless_y (fin s m e) (inf t) b c f h g l q = refl
endless_y (fin s m e) (fin t n d) b c f h g l q = let k = (decode t n d c f g).finite in absurd (omega arith)

pub zero_y : (x y : Float) (c : ℕ) → T (fits binary64 y) → c ≡ to_bits binary64 y → c % 9223372036854775808 ≡ 0 → nan ≡ rem binary64 x y
unfolding rem
zero_y nan y c f h z = refl
zero_y (inf s) y c f h z = refl
zero_y (fin s m e) nan c f h z = refl
zero_y (fin s m e) (inf t) c f h z = let k = inf_at t c h in absurd (omega arith)
zero_y (fin s m e) (fin t zero d) c f h z = refl
zero_y (fin s m e) (fin t (suc n) d) c f h z =
    let j = (places t (suc n) d f).0 in
    let k : 0 < suc n * 2 ^ j = mul-pos (zero-lt-suc n) (pow_pos j) in
    let u : suc n * 2 ^ j ≡ digits (c % 9223372036854775808) * 2 ^ exponent (c % 9223372036854775808) = sym (units_at t (suc n) d f) ∙ (decode t (suc n) d c f h).sized in
    let v : digits (c % 9223372036854775808) ≡ 0 = omega arith in
    let w : digits (c % 9223372036854775808) * 2 ^ exponent (c % 9223372036854775808) ≡ 0 = ap (λ (x : ℕ). x * 2 ^ exponent (c % 9223372036854775808)) v ∙ zero-mul (2 ^ exponent (c % 9223372036854775808)) in
    absurd (omega arith)

-- ---- the ways where both are finite and y is not zero
pub record Known (x y : Float) (b c : ℕ) (s : Bool) : Type 0 where
  pub sign : b ≡ cond s 9223372036854775808 0 + b % 9223372036854775808
  pub is_rem : rem binary64 x y ≡ round binary64 s (in_units x % in_units y) (2 ^ 1074)
  pub is_x : round binary64 s (in_units x) (2 ^ 1074) ≡ x
  pub x_units : in_units x ≡ digits (b % 9223372036854775808) * 2 ^ exponent (b % 9223372036854775808)
  pub y_units : in_units y ≡ digits (c % 9223372036854775808) * 2 ^ exponent (c % 9223372036854775808)

some_digits : (c : ℕ) → 0 < c → 0 < digits c
some_digits c h = omega arith

known : (x y : Float) (b c : ℕ) → T (fits binary64 x) → T (fits binary64 y) → b ≡ to_bits binary64 x → c ≡ to_bits binary64 y → b % 9223372036854775808 < 9218868437227405312
    → c % 9223372036854775808 < 9218868437227405312 → 0 < c % 9223372036854775808 → (s : Bool) × Known x y b c s
known nan y b c fx fy h g l k p = let i = nan_at b h in absurd (omega arith)
known (inf s) y b c fx fy h g l k p = let i = inf_at s b h in absurd (omega arith)
known (fin s m e) nan b c fx fy h g l k p = let i = nan_at c g in absurd (omega arith)
known (fin s m e) (inf t) b c fx fy h g l k p = let i = inf_at t c g in absurd (omega arith)
known (fin s m e) (fin t zero d) b c fx fy h g l k p =
    let C = c % 9223372036854775808 in
    let i : 0 < digits C * 2 ^ exponent C = mul-pos (some_digits C p) (pow_pos (exponent C)) in
    let u : digits C * 2 ^ exponent C ≡ 0 = sym (decode t zero d c fy g).sized ∙ units_at t zero d fy ∙ zero-mul (2 ^ (places t zero d fy).0) in
    absurd (omega arith)
known (fin s m e) (fin t (suc n) d) b c fx fy h g l k p =
    let i = decode s m e b fx h in
    (s, record { sign = i.sign; is_rem = rem_units s m e t n d fx fy; is_x = round_back s m e fx; x_units = i.sized; y_units = (decode t (suc n) d c fy g).sized })

-- a smaller exponent: y has all 53 digits, so x is below it
below : (r k q j : ℕ) → r < 9007199254740992 → 4503599627370496 ≤ q → k < j → r * 2 ^ k < q * 2 ^ j
below r k q j a b h =
    lt_of_lt_of_le (mul-lt-mul_of_pos_right a (pow_pos k))
    (le_trans (le_of_eq (sym (ap (λ (x : ℕ). 4503599627370496 * x) (pow-succ' 2 k) ∙ sym (mul_assoc 4503599627370496 2 (2 ^ k)))))
    (le_trans (native.Mathlib.Nat.mul-le-mul_left 4503599627370496 (pow_mono h)) (mul-le-mul_right (2 ^ j) b)))

few_digits : (b : ℕ) → b < 9218868437227405312 → digits b < 9007199254740992
few_digits b h = omega arith

all_digits : (k c : ℕ) → k < exponent c → 4503599627370496 ≤ digits c
all_digits k c h = omega arith

module _ (x y : Float) (b c : ℕ) (fx : T (fits binary64 x)) (fy : T (fits binary64 y)) (h : b ≡ to_bits binary64 x) (g : c ≡ to_bits binary64 y) (l : b % 9223372036854775808 < 9218868437227405312)
    (k : c % 9223372036854775808 < 9218868437227405312) (p : 0 < c % 9223372036854775808) where
  pub way_less : exponent (b % 9223372036854775808) < exponent (c % 9223372036854775808) → x ≡ rem binary64 x y
  way_less q =
      let B = b % 9223372036854775808 in
      let C = c % 9223372036854775808 in
      let w = known x y b c fx fy h g l k p in
      let i : in_units x < in_units y = lt_of_le_of_lt (le_of_eq w.1.x_units) (lt_of_lt_of_le (below (digits B) (exponent B) (digits C) (exponent C) (few_digits B l) (all_digits (exponent B) C q) q) (le_of_eq (sym w.1.y_units))) in
      sym w.1.is_x ∙ ap (λ (z : ℕ). round binary64 w.0 z (2 ^ 1074)) (sym (mod-eq_of_lt i)) ∙ sym w.1.is_rem

  -- kx and ky are the exponents, r the remainder of the digits, a the pattern of r * 2 ^ ky units, and v what is read from a
  module _ (v : Float) (a r kx ky : ℕ) (q : ky ≤ kx) (ex : kx ≡ exponent (b % 9223372036854775808)) (ey : ky ≡ exponent (c % 9223372036854775808))
      (er : r ≡ (b % 9223372036854775808 - kx * 4503599627370496) * 2 ^ (kx - ky) % (c % 9223372036854775808 - ky * 4503599627370496))
      (ea : a ≡ to_bits binary64 (round binary64 false (r * 2 ^ ky) (2 ^ 1074))) (ev : v ≡ of_bits binary64 a) where
    same_size : r * 2 ^ ky ≡ in_units x % in_units y
    same_size =
        let B = b % 9223372036854775808 in
        let C = c % 9223372036854775808 in
        let w = known x y b c fx fy h g l k p in
        let R = B - kx * 4503599627370496 in
        let S = C - ky * 4503599627370496 in
        let P = 2 ^ (kx - ky) in
        let X : in_units x ≡ R * P * 2 ^ ky = w.1.x_units ∙ ap (λ (z : ℕ). (B - z * 4503599627370496) * 2 ^ z) (sym ex) ∙ ap (λ (z : ℕ). R * 2 ^ z) (sym (back kx ky q)) ∙ ap (λ (z : ℕ). R * z) (pow-add 2 (kx - ky) ky) ∙ sym (mul_assoc R P (2 ^ ky)) in
        let Y : in_units y ≡ S * 2 ^ ky = w.1.y_units ∙ ap (λ (z : ℕ). (C - z * 4503599627370496) * 2 ^ z) (sym ey) in
        let some : 0 < S = subst (λ (z : ℕ). 0 < C - z * 4503599627370496) (sym ey) (some_digits C p) in
        ap (λ (z : ℕ). z * 2 ^ ky) er ∙ sym (mod_scale (R * P) S (2 ^ ky) some (pow_pos ky)) ∙ ap (λ (z : ℕ). z % (S * 2 ^ ky)) (sym X) ∙ ap (λ (z : ℕ). in_units x % z) (sym Y)

    read_back : v ≡ round binary64 false (in_units x % in_units y) (2 ^ 1074)
    read_back = ev ∙ ap (of_bits binary64) ea ∙ of_bits-to_bits binary64 (round binary64 false (r * 2 ^ ky) (2 ^ 1074)) (round-fits binary64 false (r * 2 ^ ky) (2 ^ 1074)) ∙ ap (λ (z : ℕ). round binary64 false z (2 ^ 1074)) same_size

    pub way_positive : b < 9223372036854775808 → v ≡ rem binary64 x y
    way_positive z = let w = known x y b c fx fy h g l k p in go w.0 w.1
      where
        go : (s : Bool) → Known x y b c s → v ≡ rem binary64 x y
        go true w = let i : b ≡ 9223372036854775808 + b % 9223372036854775808 = w.sign in absurd (omega arith)
        go false w = read_back ∙ sym w.is_rem

    pub way_negative : 9223372036854775808 ≤ b → neg v ≡ rem binary64 x y
    way_negative z = let w = known x y b c fx fy h g l k p in go w.0 w.1
      where
        go : (s : Bool) → Known x y b c s → neg v ≡ rem binary64 x y
        go true w = ap neg read_back ∙ neg_round binary64 false (in_units x % in_units y) (2 ^ 1074) ∙ sym w.is_rem
        go false w = let i : b ≡ 0 + b % 9223372036854775808 = w.sign in absurd (omega arith)
