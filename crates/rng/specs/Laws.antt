-- What the definitions of Rng.antt come to, beside the Rust's words on each draw: 64 bits; uniform in [0, 1); an integer in [lo, hi). Assumes nothing.
use Rattle.std.specs.Prelude.{◌≡◌, ℕ, ◌+◌, ◌-◌, ◌*◌, ◌/◌, ◌^◌, ◌<◌, ◌≤◌, true, false, pos, negsuc, refl, Float}
use Rattle.std.proofs.Common.{sym, ap, ◌∙◌, subst, mul_assoc, mul_comm, mul_left_comm, mul-one, mul-pos, mul_right_comm, mul-lt-mul_of_pos_right, mod-lt, div-lt_iff_lt-mul, le_of_lt, lt_of_le_of_lt, lt_of_lt_of_le, arith, true≢false, lit≤, pow_pos, pow_mono, shl_lt, shr_lt}
use Rattle.std.proofs.Math.Nat.{eq_of_mul-eq-mul_right}
use Rattle.std.proofs.lemmas.Bool.{lt-leb}
use Rattle.std.proofs.lemmas.Nat.{xor_lt, shr_le}
use Rattle.std.specs.Float.{nan, inf, fin, binary64}
use Rattle.std.specs.Float.Ieee.{mul, div, of_int, of_bits, up, down, round}
use Rattle.std.specs.Float.Ieee.Back.{round_whole}
use Rattle.std.specs.Float.Ieee.Exact.{HasValue, round_exact}
use Rattle.std.specs.Float.Ieee.Fits.{down_pos}
use Rattle.rng.specs.declared.Rng.{Rng}
use Rattle.rng.specs.Rng.{stepped, folded, spread, mixed, unit, fraction_of, word_of, range_of}

-- ---- 64 bits

folded_lt : (k z : ℕ) → z < 2 ^ 64 → folded k z < 2 ^ 64
unfolding folded
folded_lt k z h = xor_lt 64 z (z / 2 ^ k) h (lt_of_le_of_lt (shr_le z k) h)

spread_lt : (k c z : ℕ) → spread k c z < 2 ^ 64
unfolding spread
spread_lt k c z = mod-lt (folded k z * c) (pow_pos 64)

mixed_lt : (z : ℕ) → mixed z < 2 ^ 64
unfolding mixed
mixed_lt z = folded_lt 31 (spread 27 0x94d0_49bb_1331_11eb (spread 30 0xbf58_476d_1ce4_e5b9 z)) (spread_lt 27 0x94d0_49bb_1331_11eb (spread 30 0xbf58_476d_1ce4_e5b9 z))

pub word_lt : (g : Rng) → word_of g < 2 ^ 64
unfolding word_of
word_lt g = mixed_lt (stepped g.0)

-- ---- an integer in [lo, hi)

-- a word's share of n things is below n
pub share_lt : (z n : ℕ) → z < 2 ^ 64 → 0 < n → z * n / 2 ^ 64 < n
share_lt z n h k = (div-lt_iff_lt-mul {k = 2 ^ 64} (pow_pos 64)).1 (subst (λ (x : ℕ). z * n < x) (mul_comm (2 ^ 64) n) (mul-lt-mul_of_pos_right h k))

within : (lo hi p : ℕ) → lo < hi → p < hi - lo → (lo ≤ lo + p) × (lo + p < hi)
within lo hi p h k = omega arith

pub range_within : (g : Rng) (lo hi : ℕ) → lo < hi → (lo ≤ (range_of g lo hi).value) × ((range_of g lo hi).value < hi)
unfolding range_of
range_within g lo hi h = rw (lt-leb hi lo h) (within lo hi _ h (share_lt (word_of g) (hi - lo) (word_lt g) (omega arith)))

-- ---- a fraction: nothing is rounded, so it is the word's upper 53 bits over 2 ^ 53, and below one

-- the unit is 1 * 2 ^ -53
pub unit_is : unit ≡ fin false 1 (negsuc 52)
unfolding div of_int of_bits
unit_is = refl

pub upper_lt : (z : ℕ) → z < 2 ^ 64 → z / 2 ^ 11 < 2 ^ 53
upper_lt z h = shr_lt 53 11 h

regroup : (n d p q : ℕ) → n * d * (p * q) ≡ n * p * (d * q)
regroup n d p q = simp (mul_assoc, mul_left_comm)

-- n, held as a / d, times the unit
scaled : (n a d : ℕ) → 0 < d → n < 2 ^ 53 → a ≡ n * d → HasValue (round binary64 false (a * 1) (d * 2 ^ 53)) false (a * 1) (d * 2 ^ 53)
scaled n a d p h e =
    round_exact binary64 false (a * 1) (d * 2 ^ 53) n 1021 (mul-pos p (pow_pos 53)) h
    (lt_of_lt_of_le (shl_lt 53 1021 h) (pow_mono {i = 1074} {j = 2098} (lit≤ tt)))
    (ap (λ (x : ℕ). x * 2 ^ 1074) (mul-one a ∙ e) ∙ regroup n d (2 ^ 1021) (2 ^ 53))

-- the same value with d taken out
lighter : (x : Float) (n a d : ℕ) → 0 < d → a ≡ n * d → HasValue x false (a * 1) (d * 2 ^ 53) → HasValue x false n (2 ^ 53)
lighter nan n a d p e v = v
lighter (inf t) n a d p e v = v
lighter (fin t m j) n a d p e v = (
  v.0,
  eq_of_mul-eq-mul_right d p (m * up j * 2 ^ 53) (n * down j)
      (mul_assoc (m * up j) (2 ^ 53) d ∙ ap (λ (x : ℕ). m * up j * x) (mul_comm (2 ^ 53) d) ∙ v.1
      ∙ ap (λ (x : ℕ). x * down j) (mul-one a ∙ e) ∙ mul_right_comm n d (down j)),
)

times_unit : (n : ℕ) (x : Float) → n < 2 ^ 53 → HasValue x false n 1 → HasValue (mul binary64 x unit) false n (2 ^ 53)
unfolding mul div of_int of_bits
times_unit n nan h v = v
times_unit n (inf t) h v = v
times_unit n (fin false m e) h v =
    let is : m * up e ≡ n * down e = sym (mul-one (m * up e)) ∙ v.1 in
    lighter (round binary64 false (m * up e * 1) (down e * 2 ^ 53)) n (m * up e) (down e) (down_pos e) is (scaled n (m * up e) (down e) (down_pos e) h is)
times_unit n (fin true m e) h v = absurd (true≢false v.0)

pub fraction_exact : (z : ℕ) → z < 2 ^ 64 → HasValue (fraction_of z) false (z / 2 ^ 11) (2 ^ 53)
unfolding fraction_of
fraction_exact z h = times_unit (z / 2 ^ 11) (of_int binary64 (pos (z / 2 ^ 11))) (upper_lt z h) (round_whole binary64 false (z / 2 ^ 11) (le_of_lt (upper_lt z h)))
