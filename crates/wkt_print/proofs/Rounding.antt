-- A PRINTED NUMBER SHOWS THE FLOAT: its exact value rounded to nearest and halves to even, never a signed zero (document 01, "The text program"; the definitions
-- are in specs/Rounding.antt). `number_shown`: every float below 2 ^ 25 is printed as a numeral that shows it. `rounds_once`: no second number is rounded to.
-- `no_minus_zero`: where all decimals are 0 there is no minus, whatever the float.
-- Assumes nothing.
use mathlib.Core.Path.{◌≡◌, refl, sym, ap, ◌∙◌, subst}
use mathlib.Core.Bool.{Bool, true, false, not, ◌&&◌, cond}
use mathlib.Core.Logic.{inl, inr, ⊎_elim}
use mathlib.Core.List.{◌∷◌, ◌++◌}
use Prim.Native.Nat.{ℕ, zero, suc, ◌+◌, ◌-◌, ◌*◌, ◌/◌, ◌%◌, ◌^◌, ◌≤◌, ◌<◌, compare, Ordering}
use native.Mathlib.Nat.{zero-mul, suc-mul, add-mul, mul_assoc, mul_comm, mul-one, pow-suc, mul-le-mul_right, le_antisymm, eq_of_mul-eq-mul_right, div-add-mod', mod-lt, zero-div}
use native.Mathlib.Omega.{arith}
use lib.IntN.{ℤ}
use lib.Dec.{ltb, eqb}
use borrow.Author.Tests.{le-leb, le-ltb, ltb-true}
use lib.Ieee.{Float, fin, up, down, lt, of_bits, binary64, nearest}
use lib.Ieee.Fits.{down_pos}
use lib.Ieee.Nearest.{closest}
use Rattle.lists.specs.Members.{All}
use Rattle.lists.proofs.Cases.{lt_or_le, by_test}
use Rattle.wkt.specs.Words.{minus_byte, minus_if}
use Rattle.wkt.specs.Parse.{starts, value_of}
use Rattle.wkt.specs.Numeral.{Numeral, bytes_of, upper, Digit}
use Rattle.wkt.proofs.Compare.{Cmp, cmp}
use Rattle.wkt_print.specs.Decimal.{scaled_of, fixed, width_from, width, whole_text, decimal_text, shown, too_large}
use Rattle.wkt_print.specs.Rounding.{Rounds, Shows}
use Rattle.wkt_print.proofs.Bits.{nought, scaled_zero}
use Rattle.wkt_print.proofs.Widths.{ten_pos, digit_low, length_fixed}
use Rattle.wkt_print.proofs.Lengths.{exact, whole_low}

-- ---- `closest` rounds: a = q * b + r, by how twice the rest compares
by_rest : (o : Ordering) (a b q r : ℕ) → q * b + r ≡ a → r < b → Cmp o (r * 2) b → Rounds a b (nearest q o)
by_rest Ordering.lt a b q r e l c = record { not_above = omega arith; not_below = omega arith; half_even = ⊎_elim (λ h. absurd (omega arith)) (λ h. absurd (omega arith)) }
by_rest Ordering.eq a b q r e l c =
    let p : (q + q % 2) * b ≡ q * b + q % 2 * b = add-mul q (q % 2) b in
    let t : q % 2 ≤ 1 = omega arith in
    let m : q % 2 * b ≤ 1 * b = mul-le-mul_right b t in
    let v : (q + q % 2) % 2 ≡ 0 = omega arith in
    record { not_above = omega arith; not_below = omega arith; half_even = λ _. v }
by_rest Ordering.gt a b q r e l c =
    let p : suc q * b ≡ q * b + b = suc-mul q b in
    record { not_above = omega arith; not_below = omega arith; half_even = ⊎_elim (λ h. absurd (omega arith)) (λ h. absurd (omega arith)) }

pub closest_rounds : (a b : ℕ) → 0 < b → Rounds a b (closest a b)
closest_rounds a b B = by_rest (compare (a % b * 2) b) a b (a / b) (a % b) (div-add-mod' a b) (mod-lt a B) (cmp (a % b * 2) b)

-- ---- and only one number is rounded to: of two neighbours a half away one is odd
no_less : (a b q r : ℕ) → 0 < b → Rounds a b q → Rounds a b r → q < r → ⊥
no_less a b q r B f g h =
    let m : suc q * b ≤ r * b = mul-le-mul_right b h in
    let p : suc q * b ≡ q * b + b = suc-mul q b in
    let x = f.not_below in
    let y = g.not_above in
    let u : 2 * a ≡ 2 * (q * b) + b = omega arith in
    let v : 2 * (r * b) ≡ 2 * a + b = omega arith in
    let w : r * b ≡ suc q * b = omega arith in
    let n : r ≡ suc q = eq_of_mul-eq-mul_right b B r (suc q) w in
    let q0 : q % 2 ≡ 0 = f.half_even (inr u) in
    let r0 : r % 2 ≡ 0 = g.half_even (inl v) in
    omega arith

pub rounds_once : (a b q r : ℕ) → 0 < b → Rounds a b q → Rounds a b r → q ≡ r
rounds_once a b q r B f g =
    le_antisymm
    (⊎_elim (λ h. absurd (no_less a b r q B g f h)) (λ h. h) (lt_or_le r q))
    (⊎_elim (λ h. absurd (no_less a b q r B f g h)) (λ h. h) (lt_or_le q r))

-- ---- digits are digits, and write their number
digit_is : (d : ℕ) → d < 10 → Digit (48 + d)
digit_is d h =
    let a : 48 ≤ 48 + d = omega arith in
    let b : 48 + d ≤ 57 = omega arith in
    rw (le-leb 48 (48 + d) a, le-leb (48 + d) 57 b)

fixed_digits : (k n : ℕ) → n < 10 ^ k → All Digit (fixed k n)
fixed_digits zero n h = tt
fixed_digits (suc k) n h =
    let e : suc k - 1 ≡ k = omega arith in
    (digit_is (n / 10 ^ k) (subst (λ (x : ℕ). n / 10 ^ x < 10) e (digit_low (suc k) n (omega arith) h)), fixed_digits k (n % 10 ^ k) (mod-lt n (ten_pos k)))

fixed_value : (k a n : ℕ) → n < 10 ^ k → value_of a (fixed k n) ≡ a * 10 ^ k + n
fixed_value zero a n h = omega (arith, mul-one a)
fixed_value (suc k) a n h =
    let d : 48 + n / 10 ^ k - 48 ≡ n / 10 ^ k = omega arith in
    let s : (a * 10 + n / 10 ^ k) * 10 ^ k ≡ a * 10 * 10 ^ k + n / 10 ^ k * 10 ^ k = add-mul (a * 10) (n / 10 ^ k) (10 ^ k) in
    let t : a * 10 * 10 ^ k ≡ a * 10 ^ suc k = mul_assoc a 10 (10 ^ k) ∙ ap (λ (x : ℕ). a * x) (mul_comm 10 (10 ^ k) ∙ sym (pow-suc 10 k)) in
    let w : n / 10 ^ k * 10 ^ k + n % 10 ^ k ≡ n = div-add-mod' n (10 ^ k) in
    ap (λ (x : ℕ). value_of (a * 10 + x) (fixed k (n % 10 ^ k))) d ∙ fixed_value k (a * 10 + n / 10 ^ k) (n % 10 ^ k) (mod-lt n (ten_pos k)) ∙ omega arith

fixed_is : (k n : ℕ) → n < 10 ^ k → value_of 0 (fixed k n) ≡ n
fixed_is k n h = fixed_value k 0 n h ∙ omega (arith, zero-mul (10 ^ k))

-- ---- a number has digits enough, and one at least
enough_from : (f w t n : ℕ) → f + w ≡ t → n < 10 ^ t → (n < 10 ^ width_from f w n) × (w ≤ width_from f w n)
enough_from zero w t n e h = let g : t ≡ w = omega arith in (subst (λ (x : ℕ). n < 10 ^ x) g h, omega arith)
enough_from (suc f) w t n e h = go (ltb n (10 ^ w)) refl (enough_from f (suc w) t n (omega arith) h)
  where
    go : (b : Bool) → ltb n (10 ^ w) ≡ b → (n < 10 ^ width_from f (suc w) n) × (suc w ≤ width_from f (suc w) n) → (n < 10 ^ cond b w (width_from f (suc w) n)) × (w ≤ cond b w (width_from f (suc w) n))
    go true e ih = (ltb-true n (10 ^ w) e, omega arith)
    go false e ih = (ih.0, let g = ih.1 in omega arith)

width_enough : (n : ℕ) → n < 33554433 → (n < 10 ^ width n) × (1 ≤ width n)
width_enough n h = enough_from 10 1 11 n refl (omega arith)

-- ---- the minus: the order's, and the sign's
not_negative : (m : ℕ) (e : ℤ) → lt (fin false m e) nought ≡ false
unfolding lt
not_negative m e = le-ltb (m * up e * 1) (0 * 1 * down e) (omega (arith, zero-mul (down e)))

above_none : (m : ℕ) (e : ℤ) → lt nought (fin true m e) ≡ false
unfolding lt
above_none m e = refl

minus_same : (places : ℕ) (s : Bool) (m : ℕ) (e : ℤ) → (lt (fin s m e) nought && not (eqb (scaled_of places (fin s m e)) 0)) ≡ (s && not (eqb (scaled_of places (fin s m e)) 0))
minus_same places false m e = let h = not_negative m e in rw h
minus_same places true m e = ⊎_elim (λ h. rw h) (λ h. let z : scaled_of places (fin true m e) ≡ 0 = sym (scaled_zero places (fin true m e) (above_none m e) h) in rw (h, z)) (by_test (lt (fin true m e) nought))

nought_is : of_bits binary64 0 ≡ nought
unfolding of_bits
nought_is = refl

shown_by : (places : ℕ) (x : Float) → shown places x ≡ decimal_text places (lt x nought) (scaled_of places x)
unfolding shown
shown_by places x = ap (λ (y : Float). decimal_text places (lt x y) (scaled_of places x)) nought_is

-- of a sign only what is printed of it counts
pub sign_text : (places : ℕ) (s t : Bool) (q : ℕ) → (s && not (eqb q 0)) ≡ (t && not (eqb q 0)) → decimal_text places s q ≡ decimal_text places t q
sign_text places s t q e = ap (λ (b : Bool). minus_if b ++ (whole_text (q / 10 ^ places) ++ (46 ∷ fixed places (q % 10 ^ places)))) e

pub shown_signed : (places : ℕ) (s : Bool) (m : ℕ) (e : ℤ) → shown places (fin s m e) ≡ decimal_text places s (scaled_of places (fin s m e))
shown_signed places s m e = shown_by places (fin s m e) ∙ sign_text places (lt (fin s m e) nought) s (scaled_of places (fin s m e)) (minus_same places s m e)

-- ---- THE THEOREM: a float below 2 ^ 25 is printed as a numeral that shows it
abbrev numeral_of : ℕ → Bool → ℕ → Numeral
numeral_of places s q = record { minus = s && not (eqb q 0); whole = whole_text (q / 10 ^ places); part = fixed places (q % 10 ^ places) }

numeral_text : (places : ℕ) → 1 ≤ places → (s : Bool) (q : ℕ) → decimal_text places s q ≡ bytes_of (numeral_of places s q)
numeral_text zero h s q = absurd (omega arith)
numeral_text (suc places) h s q = refl

numeral_value : (places : ℕ) (s : Bool) (q : ℕ) → q / 10 ^ places < 33554433 → upper (numeral_of places s q) ≡ q
numeral_value places s q h =
    let w = fixed_is (width (q / 10 ^ places)) (q / 10 ^ places) (width_enough (q / 10 ^ places) h).0 in
    let p = fixed_is places (q % 10 ^ places) (mod-lt q (ten_pos places)) in
    let l = length_fixed places (q % 10 ^ places) in
    rw (w, p, l) (div-add-mod' q (10 ^ places))

pub number_shown : (places : ℕ) → 1 ≤ places → (s : Bool) (m : ℕ) (e : ℤ) → m * up e < too_large * down e → (n : Numeral) × (shown places (fin s m e) ≡ bytes_of n) × Shows places s m e n
number_shown places h s m e l =
    let x = fin s m e in
    let q = scaled_of places x in
    let low = whole_low places x q (10 ^ places) refl refl in
    let w = width_enough (q / 10 ^ places) low in
    let u = numeral_value places s q low in (
      numeral_of places s q,
      shown_signed places s m e ∙ numeral_text places h s q,
      record {
        digits_before = fixed_digits (width (q / 10 ^ places)) (q / 10 ^ places) w.0;
        digits_after = fixed_digits places (q % 10 ^ places) (mod-lt q (ten_pos places));
        some_before = subst (λ (k : ℕ). 1 ≤ k) (sym (length_fixed (width (q / 10 ^ places)) (q / 10 ^ places))) w.1;
        decimals = length_fixed places (q % 10 ^ places);
        rounded = subst (Rounds (m * up e * 10 ^ places) (down e)) (sym (u ∙ exact places s m e l)) (closest_rounds (m * up e * 10 ^ places) (down e) (down_pos e));
        minus_is = ap (λ (k : ℕ). s && not (eqb k 0)) (sym u);
      },
    )

-- ---- never a signed zero
no_sign : (s : Bool) → (s && not (eqb 0 0)) ≡ false
no_sign true = refl
no_sign false = refl

pub no_minus_zero : (places : ℕ) (x : Float) → scaled_of places x ≡ 0 → starts minus_byte (shown places x) ≡ false
no_minus_zero places x z =
    let t : decimal_text places (lt x nought) 0 ≡ 48 ∷ (46 ∷ fixed places (0 % 10 ^ places)) = rw (no_sign (lt x nought), zero-div (10 ^ places)) in
    ap (starts minus_byte) (shown_by places x ∙ ap (decimal_text places (lt x nought)) z ∙ t)
