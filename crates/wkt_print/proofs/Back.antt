-- WHAT WAS READ IS PRINTED AS THE SAME DECIMAL (document 01, "The text program"; document 02's Q-7 for six decimals): a number of a text with at most `places` decimals,
-- read as the nearest float and printed with `places` decimals, is the same decimal again: zeros filled up behind, none in front, and
-- no minus at zero. `shown_back`, and of a text `number_back`.
-- Why: the float is off by half a unit of its last digit at most, and at 7 digits before the point and 6 after it that is far less than half of the last decimal.
-- Assumes nothing.
use mathlib.Core.Path.{◌≡◌, refl, sym, ap, ◌∙◌, subst}
use mathlib.Core.Bool.{Bool, true, false, not, ◌&&◌}
use mathlib.Core.Logic.{⊎_elim}
use mathlib.Core.List.{List}
use Prim.Native.Nat.{ℕ, zero, suc, ◌+◌, ◌-◌, ◌*◌, ◌/◌, ◌^◌, ◌≤◌, ◌<◌}
use native.Mathlib.Nat.{zero-mul, suc-mul, add-mul, mul_assoc, mul_comm, mul_right_comm, mul-pos, mul-le-mul_right, mul-lt-mul_of_pos_right, lt_of_mul-lt-mul_right, lt_of_lt_of_le, lt_of_le_of_lt, le_of_eq, le_trans, zero-lt-suc, le-div_iff_mul-le}
use native.Mathlib.Omega.{arith}
use lib.IntN.{ℤ, pos}
use lib.Dec.{eqb}
use lib.ListN.{length}
use borrow.Author.Tests.{ne_eqb}
use lib.Pow.{pow_pos, pow-add}
use lib.Ieee.{Float, nan, inf, fin, up, down, lt, binary64, size, round}
use lib.Ieee.Fits.{down_pos}
use lib.Ieee.Exact.{HasValue}
use lib.Ieee.Nearest.{closest}
use lib.Ieee.Scale.{round_val}
use Rattle.lists.specs.Members.{All}
use Rattle.wkt.specs.Parse.{got, value_of}
use Rattle.wkt.specs.Number.{number}
use Rattle.wkt.specs.Numeral.{Numeral, upper, Digit, Stands}
use Rattle.wkt.proofs.Numerals.{ten_le}
use Rattle.wkt.proofs.Prefix.{same_got}
use Rattle.wkt.proofs.Nearest.{kept_many, under, nearest_is, signed, zero_is}
use Rattle.wkt.proofs.Written.{digits_few, float_of, number_nearest, number_read}
use Rattle.wkt_print.specs.Decimal.{scaled_of, decimal_text, shown, too_large}
use Rattle.wkt_print.specs.Rounding.{Rounds}
use Rattle.wkt_print.proofs.Bits.{nought, scaled_zero, value_closest}
use Rattle.wkt_print.proofs.Widths.{ten_pos}
use Rattle.wkt_print.proofs.Lengths.{exact}
use Rattle.wkt_print.proofs.Rounding.{closest_rounds, rounds_once, sign_text, shown_signed}

-- ---- the decimal a / b in units of 1 / W, as a float has it: c steps of w, which is a * W / b rounded. A step is small: 2 ^ 52 of them are no more than the decimal.
module _ (a b w c W : ℕ) (P : 0 < W) (R : Rounds (a * W) (b * w) c) (many : 4503599627370496 * (b * w) ≤ a * W) where
  -- with D the decimals are filled up, so that b * D is 10 ^ places. A step is then less than one of the last decimal
  step_small : (D : ℕ) → a * D < 4503599627370496 → b * w * D < W
  step_small D few =
      let x : 4503599627370496 * (b * w) * D ≤ a * W * D = mul-le-mul_right D many in
      let y : 4503599627370496 * (b * w) * D ≡ 4503599627370496 * (b * w * D) = mul_assoc 4503599627370496 (b * w) D in
      let z : a * W * D ≡ a * D * W = mul_right_comm a W D in
      let v : a * D * W < 4503599627370496 * W = mul-lt-mul_of_pos_right few P in
      omega arith

  regroup : (D : ℕ) → c * (b * w) * D ≡ c * w * (b * D)
  regroup D = ap (λ (x : ℕ). c * x * D) (mul_comm b w) ∙ ap (λ (x : ℕ). x * D) (sym (mul_assoc c w b)) ∙ mul_assoc (c * w) b D

  -- so that the float, to those decimals, rounds to the decimal
  rounds_back : (D : ℕ) → a * D < 4503599627370496 → Rounds (c * w * (b * D)) W (a * D)
  rounds_back D few =
      let s = step_small D few in
      let g = regroup D in
      let z : a * W * D ≡ a * D * W = mul_right_comm a W D in
      let l : 2 * (a * W) * D ≡ 2 * (a * W * D) = mul_assoc 2 (a * W) D in
      let r : 2 * (c * (b * w)) * D ≡ 2 * (c * (b * w) * D) = mul_assoc 2 (c * (b * w)) D in
      let x : 2 * (c * (b * w)) * D ≤ (2 * (a * W) + b * w) * D = mul-le-mul_right D R.not_above in
      let x' : (2 * (a * W) + b * w) * D ≡ 2 * (a * W) * D + b * w * D = add-mul (2 * (a * W)) (b * w) D in
      let y : 2 * (a * W) * D ≤ (2 * (c * (b * w)) + b * w) * D = mul-le-mul_right D R.not_below in
      let y' : (2 * (c * (b * w)) + b * w) * D ≡ 2 * (c * (b * w)) * D + b * w * D = add-mul (2 * (c * (b * w))) (b * w) D in
      record { not_above = omega arith; not_below = omega arith; half_even = ⊎_elim (λ h. absurd (omega arith)) (λ h. absurd (omega arith)) }

  -- and it is below 2 ^ 25
  not_large : a < 10000000 * b → c * w < 33554432 * W
  not_large h =
      let x : a * W < 10000000 * (W * b) = lt_of_lt_of_le (mul-lt-mul_of_pos_right h P) (le_of_eq (mul_right_comm 10000000 b W ∙ mul_assoc 10000000 W b)) in
      let z : c * w * b ≡ c * (b * w) = mul_assoc c w b ∙ ap (λ (x : ℕ). c * x) (mul_comm w b) in
      lt_of_mul-lt-mul_right b (lt_of_le_of_lt (le_of_eq z) (lt_of_lt_of_le (half_more (c * (b * w)) (a * W) (b * w) (W * b) R.not_above (at_most (b * w) (a * W) many) x) (le_of_eq (sym (mul_assoc 33554432 W b)))))
    where
      at_most : (s x : ℕ) → 4503599627370496 * s ≤ x → s ≤ x
      at_most s x h = omega arith

      half_more : (v x s z : ℕ) → 2 * v ≤ 2 * x + s → s ≤ x → x < 10000000 * z → v < 33554432 * z
      half_more v x s z f g h = omega arith

below_limit : (x y U W : ℕ) → 0 < y → x * W ≡ U * y → U < 33554432 * W → x < 33554432 * y
below_limit x y U W Y e h = lt_of_mul-lt-mul_right W (lt_of_le_of_lt (le_of_eq e) (lt_of_lt_of_le (mul-lt-mul_of_pos_right h Y) (le_of_eq (mul_right_comm 33554432 W y))))

-- ---- the float of a decimal in 7 digits before the point and k after it, and its printed digits, whatever its sign
record Printable (places k a : ℕ) : Type 0 where
  pub digits : ℕ
  pub exponent : ℤ
  pub is : round binary64 false a (10 ^ k) ≡ fin false digits exponent
  pub scaled : (s : Bool) → scaled_of places (fin s digits exponent) ≡ a * 10 ^ (places - k)

tens_fill : (places k : ℕ) → k ≤ places → 10 ^ k * 10 ^ (places - k) ≡ 10 ^ places
tens_fill places k h = let e : k + (places - k) ≡ places = omega arith in sym (pow-add 10 k (places - k)) ∙ ap (λ (x : ℕ). 10 ^ x) e

few_digits : (a places k : ℕ) → places ≤ 6 → k ≤ places → a < 10000000 * 10 ^ k → a * 10 ^ (places - k) < 4503599627370496
few_digits a places k h l A =
    let x : a * 10 ^ (places - k) < 10000000 * 10 ^ k * 10 ^ (places - k) = mul-lt-mul_of_pos_right A (ten_pos (places - k)) in
    let y : 10000000 * 10 ^ k * 10 ^ (places - k) ≡ 10000000 * 10 ^ places = mul_assoc 10000000 (10 ^ k) (10 ^ (places - k)) ∙ ap (λ (z : ℕ). 10000000 * z) (tens_fill places k l) in
    let t : 10 ^ places ≤ 1000000 = ten_le places 6 h in
    omega arith

below_top : (a k : ℕ) → k ≤ 6 → a < 10000000 * 10 ^ k → a < 10 ^ 15
below_top a k h A =
    let t : 10 ^ k ≤ 1000000 = ten_le k 6 h in
    omega arith

-- zero, with either sign
zero_level : (s : Bool) → (lt nought (fin s 0 (pos 0)) ≡ false) × (lt (fin s 0 (pos 0)) nought ≡ false)
unfolding lt
zero_level true = (refl, refl)
zero_level false = (refl, refl)

module _ (places k a : ℕ) (H : places ≤ 6) (L : k ≤ places) (A : a < 10000000 * 10 ^ k) where
  by_value : (c w : ℕ) → Rounds (a * 2 ^ 1074) (10 ^ k * w) c → 4503599627370496 * (10 ^ k * w) ≤ a * 2 ^ 1074
      → (x : Float) → round binary64 false a (10 ^ k) ≡ x → HasValue x false (c * w) (2 ^ 1074) → Printable places k a
  by_value c w R many nan e v = absurd v
  by_value c w R many (inf s) e v = absurd v
  by_value c w R many (fin s m d) e v =
      let D = 10 ^ (places - k) in
      let low : m * up d < too_large * down d = below_limit (m * up d) (down d) (c * w) (2 ^ 1074) (down_pos d) v.1 (not_large a (10 ^ k) w c (2 ^ 1074) (pow_pos 1074) R many A) in
      let r : Rounds (c * w * 10 ^ places) (2 ^ 1074) (a * D) = subst (λ (z : ℕ). Rounds (c * w * z) (2 ^ 1074) (a * D)) (tens_fill places k L) (rounds_back a (10 ^ k) w c (2 ^ 1074) (pow_pos 1074) R many D (few_digits a places k H L A)) in
      record {
        digits = m;
        exponent = d;
        is = e ∙ ap (λ (t : Bool). fin t m d) v.0;
        scaled = λ t. exact places t m d low ∙ value_closest t m d (c * w) (10 ^ places) (refl, v.1) ∙ rounds_once (c * w * 10 ^ places) (2 ^ 1074) (closest (c * w * 10 ^ places) (2 ^ 1074)) (a * D) (pow_pos 1074) (closest_rounds (c * w * 10 ^ places) (2 ^ 1074) (pow_pos 1074)) r;
      }

printable : (places k a : ℕ) → places ≤ 6 → k ≤ places → a < 10000000 * 10 ^ k → Printable places k a
printable places k zero h l A = record { digits = 0; exponent = pos 0; is = zero_is k; scaled = nothing }
  where
    nothing : (s : Bool) → scaled_of places (fin s 0 (pos 0)) ≡ 0 * 10 ^ (places - k)
    nothing s = sym (scaled_zero places (fin s 0 (pos 0)) (zero_level s).0 (zero_level s).1) ∙ sym (zero-mul (10 ^ (places - k)))
printable places k (suc a) h l A =
    let few : k ≤ 6 = omega arith in
    let top = below_top (suc a) k few A in
    let I : k ≤ 15 = omega arith in
    let w = 2 ^ (size (suc a * 2 ^ 1074 / 10 ^ k) - 53) in
    let U : 0 < 10 ^ k * w = mul-pos (ten_pos k) (pow_pos (size (suc a * 2 ^ 1074 / 10 ^ k) - 53)) in
    by_value places k (suc a) h l A (closest (suc a * 2 ^ 1074) (10 ^ k * w)) w
    (closest_rounds (suc a * 2 ^ 1074) (10 ^ k * w) U)
    ((le-div_iff_mul-le U).0 (kept_many (suc a) k (zero-lt-suc a) top I))
    (round binary64 false (suc a) (10 ^ k)) refl (round_val binary64 (suc a) (10 ^ k) (under (suc a) k (zero-lt-suc a) top I))

-- ---- the sign: zero has none
sign_back : (t : Bool) (a d : ℕ) → ((t && not (eqb a 0)) && not (eqb (a * d) 0)) ≡ (t && not (eqb (a * d) 0))
sign_back false a d = refl
sign_back true zero d = let z = zero-mul d in rw z
sign_back true (suc a) d = rw (ne_eqb (suc a) 0 (λ e. omega arith))

upper_few : (n : Numeral) → All Digit n.whole → All Digit n.part → length n.whole ≤ 7 → upper n < 10000000 * 10 ^ length n.part
upper_few n h g l =
    let k = 10 ^ length n.part in
    let a : value_of 0 n.whole < 1 * 10 ^ length n.whole = digits_few n.whole 0 h in
    let b : value_of 0 n.part < 1 * k = digits_few n.part 0 g in
    let t : 10 ^ length n.whole ≤ 10000000 = ten_le (length n.whole) 7 l in
    let p : suc (value_of 0 n.whole) ≤ 10000000 = omega arith in
    let m : suc (value_of 0 n.whole) * k ≤ 10000000 * k = mul-le-mul_right k p in
    let r : suc (value_of 0 n.whole) * k ≡ value_of 0 n.whole * k + k = suc-mul (value_of 0 n.whole) k in
    omega arith

-- ---- THE THEOREM: a number of a text, read and printed, is the decimal that stood there, filled up with zeros
pub shown_back : (places : ℕ) (n : Numeral) → places ≤ 6 → All Digit n.whole → All Digit n.part → length n.whole ≤ 7 → length n.part ≤ places
    → shown places (float_of n) ≡ decimal_text places n.minus (upper n * 10 ^ (places - length n.part))
shown_back places n h dw dp w l =
    let k = length n.part in
    let a = upper n in
    let t = n.minus && not (eqb a 0) in
    let q = a * 10 ^ (places - k) in
    let p = printable places k a h l (upper_few n dw dp w) in
    ap (shown places) (nearest_is n.minus a (10 ^ k) ∙ signed t a (10 ^ k) p.digits p.exponent p.is)
    ∙ shown_signed places t p.digits p.exponent
    ∙ ap (decimal_text places t) (p.scaled t)
    ∙ sign_text places t n.minus q (sign_back n.minus a (10 ^ (places - k)))

-- of a text: what is read of its front is printed as the decimal that stands there
pub number_back : (w f places : ℕ) → w ≤ 7 → f ≤ places → places ≤ 6 → (t : List ℕ) (x : Float) (rest : List ℕ) → number w f t ≡ got x rest
    → (n : Numeral) × Stands w f n t rest × (shown places x ≡ decimal_text places n.minus (upper n * 10 ^ (places - length n.part)))
number_back w f places hw hf h t x rest e =
    let W : w + f ≤ 15 = omega arith in
    let r = number_nearest w f W t x rest e in
    let n = r.numeral in
    let s = r.stands in
    let same = same_got (float_of n) x rest rest (sym (number_read w f n t rest s) ∙ e) in
    (n, s, ap (shown places) same.0 ∙ shown_back places n h s.digits_before s.digits_after (le_trans s.few_before hw) (le_trans s.few_after hf))
