-- Floats of whole numbers, their signs and their quotients: one division of two whole floats gives the nearest float of the fraction.
-- Assumes nothing.
use Rattle.std.proofs.Common.{◌≡◌, ℕ, ◌+◌, ◌*◌, ◌^◌, ◌<◌, ◌≤◌, Bool, true, false, not, ◌&&◌, eqb, pos, sym, refl, ap, ◌∙◌, mul_assoc, mul_comm, mul-pos, zero-mul, mul-one, mul_left_comm, arith, ne_eqb}
use mathlib.Core.Bool.{and-false}
use lib.Ieee.{Float, nan, inf, fin, binary64, up, down, round, neg, div, of_int}
use lib.Ieee.Fits.{down_pos}
use lib.Ieee.Exact.{HasValue}
use lib.Ieee.Back.{round_whole}
use lib.Ieee.Scale.{round_same}
use Rattle.num.proofs.Whole.{neg_round}
use Rattle.wkt.specs.Number.{nearest_to}
use Rattle.wkt.proofs.Numerals.{ten_le}

not_zero : (n u b d : ℕ) → 0 < b → 0 < d → n * u ≡ b * d → n ≡ 0 → ⊥
not_zero n u b d hb hd e z = let p = mul-pos hb hd in let q : n * u ≡ 0 = ap (λ (x : ℕ). x * u) z ∙ zero-mul u in omega arith

pub div_values : (x y : Float) (a b : ℕ) → HasValue x false a 1 → HasValue y false b 1 → 0 < b → div binary64 x y ≡ round binary64 false a b
unfolding div
div_values nan y a b hx hy h = absurd hx
div_values (inf s) y a b hx hy h = absurd hx
div_values (fin s m e) nan a b hx hy h = absurd hy
div_values (fin s m e) (inf t) a b hx hy h = absurd hy
div_values (fin s m e) (fin t n d) a b hx hy h =
    let x : m * up e ≡ a * down e = sym (mul-one (m * up e)) ∙ hx.1 in
    let y : n * up d ≡ b * down d = sym (mul-one (n * up d)) ∙ hy.1 in
    let z : n ≡ 0 → ⊥ = not_zero n (up d) b (down d) h (down_pos d) y in
    rw (ne_eqb n 0 z, hx.0, hy.0, x, y)
    (round_same binary64 false (a * down e * down d) (b * down d * down e) a b (mul-pos (mul-pos h (down_pos d)) (down_pos e)) h (simp (mul_assoc, mul_comm, mul_left_comm)))

pub div_whole : (a b : ℕ) → a ≤ 2 ^ 53 → b ≤ 2 ^ 53 → 0 < b → div binary64 (of_int binary64 (pos a)) (of_int binary64 (pos b)) ≡ round binary64 false a b
unfolding of_int
div_whole a b ha hb h = div_values _ _ a b (round_whole binary64 false a ha) (round_whole binary64 false b hb) h

-- ---- as a decimal is read: k digits after the point
pub quotient : (n v k p : ℕ) → p ≡ 10 ^ k → k ≤ 15 → n * 10 ^ k + v < 10 ^ 15 → div binary64 (of_int binary64 (pos (n * p + v))) (of_int binary64 (pos p)) ≡ round binary64 false (n * 10 ^ k + v) (10 ^ k)
quotient n v k p e h g = rw e (div_whole (n * 10 ^ k + v) (10 ^ k) (omega arith) (omega (arith, ten_le k 15 h)) (omega (arith, ten_le 0 k (omega arith))))

pub read_zero : (s : Bool) (a b : ℕ) → a ≡ 0 → round binary64 false a b ≡ nearest_to s a b
unfolding nearest_to
read_zero s a b e = sym (ap (λ (z : Bool). round binary64 (s && not z) a b) (ap (λ (x : ℕ). eqb x 0) e) ∙ ap (λ (z : Bool). round binary64 z a b) (and-false s))

pub read_minus : (a b : ℕ) → (a ≡ 0 → ⊥) → neg (round binary64 false a b) ≡ nearest_to true a b
unfolding nearest_to
read_minus a b h = neg_round binary64 false a b ∙ sym (ap (λ (z : Bool). round binary64 (not z) a b) (ne_eqb a 0 h))

pub read_plus : (a b : ℕ) → round binary64 false a b ≡ nearest_to false a b
unfolding nearest_to
read_plus a b = refl
