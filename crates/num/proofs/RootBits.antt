-- From a float's digits to the bit pattern of its root. Assumes nothing.
use Rattle.std.proofs.Common.{◌≡◌, ℕ, zero, suc, ◌+◌, ◌-◌, ◌*◌, ◌/◌, ◌%◌, ◌^◌, ◌<◌, ◌≤◌, true, false, sym, ap, ◌∙◌, subst, true≢false, le_trans, le_of_eq, lt_of_lt_of_le, lt_of_le_of_lt, le_of_lt, lt_irrefl, mul-le-mul_right, mod-eq_of_lt, zero-lt-suc, mul_assoc, mul_comm, add-mul, mul-lt-mul_of_pos_right, one-mul, zero-add, mul-div_cancel, arith, lit<, lit≤, pow_pos, pow_mono, pow-add}
use lib.Count.{count_leading_zeros, leading_top}
use lib.Ieee.{Float, binary64, fin, up, down, size, to_bits}
use lib.Ieee.Fits.{down_pos}
use lib.Ieee.Nearest.{closest}
use lib.Ieee.Exact.{HasValue, units_val}
use Rattle.num.specs.Root.{RootOf, root_down, root_at}
use Rattle.num.proofs.RootLaws.{root_below, root_is, key, round_root, scaled_low, scaled_high, size_is}

-- ---- the bit pattern of r * 2 ^ k units, for an r of 53 digits
pub bits_of : (v : Float) (r k : ℕ) → 2 ^ 52 ≤ r → r < 2 ^ 53 → HasValue v false (r * 2 ^ k) (2 ^ 1074) → to_bits binary64 v ≡ k * 4503599627370496 + r
unfolding to_bits
bits_of lib.Ieee.nan r k a b h = elim h [ ]
bits_of (lib.Ieee.inf _) r k a b h = elim h [ ]
bits_of (fin true m e) r k a b h = absurd (true≢false h.0)
bits_of (fin false m e) r k a b h =
    let n : m * up e * 2 ^ 1074 / down e ≡ r * 2 ^ k = ap (λ (x : ℕ). x / down e) h.1 ∙ mul-div_cancel (r * 2 ^ k) (down_pos e) in
    let z : size (r * 2 ^ k) ≡ suc (52 + k) =
    size_is (r * 2 ^ k) (52 + k) (le_trans (le_of_eq (pow-add 2 52 k)) (mul-le-mul_right (2 ^ k) a)) (lt_of_lt_of_le (mul-lt-mul_of_pos_right b (pow_pos k)) (le_of_eq (sym (pow-add 2 53 k) ∙ ap (λ (x : ℕ). 2 ^ x) (shape k)))) in
    let d : size (r * 2 ^ k) - 53 ≡ k = ap (λ (x : ℕ). x - 53) z ∙ drop k in
    ap (λ (x : ℕ). 0 + (size x - 53) * 4503599627370496 + x / 2 ^ (size x - 53)) n
    ∙ ap (λ (x : ℕ). 0 + x * 4503599627370496 + r * 2 ^ k / 2 ^ x) d
    ∙ ap (λ (x : ℕ). 0 + k * 4503599627370496 + x) (mul-div_cancel r (pow_pos k))
    ∙ ap (λ (x : ℕ). x + r) (zero-add (k * 4503599627370496))
  where
    shape : (k : ℕ) → 53 + k ≡ suc (52 + k)
    shape k = omega arith

    drop : (k : ℕ) → suc (52 + k) - 53 ≡ k
    drop k = omega arith

-- ---- the digits of n moved up to 2 ^ 52 or more, by an even or an odd number of places as h asks
abbrev pub places : ℕ → ℕ → ℕ
places n h = count_leading_zeros 64 n - 11 + (h + (count_leading_zeros 64 n - 11)) % 2

pub record Moved (n p : ℕ) : Type 0 where
  pub low : 4503599627370496 ≤ n * 2 ^ p
  pub high : n * 2 ^ p ≤ 18014398509481982
  pub few : p ≤ 53

digit_few : (j : ℕ) (n : ℕ) → 2 ^ j ≤ n → n < 2 ^ 53 → j ≤ 52
digit_few j n a b = le (lt_of_not (λ (g : 53 ≤ j). lt_irrefl n (lt_of_lt_of_le b (le_trans (pow_mono g) a))))
  where
    le : j < 53 → j ≤ 52
    le h = omega arith

    lt_of_not : (53 ≤ j → ⊥) → j < 53
    lt_of_not f = native.Mathlib.Nat.lt_of_not-le f

pub lead_low : (n : ℕ) → 0 < n → n < 9007199254740992 → (j : ℕ) × (count_leading_zeros 64 n + suc j ≡ 64) × (2 ^ j ≤ n) × (n < 2 ^ suc j) × (j ≤ 52)
lead_low n a b =
    let t = leading_top 64 n a (lt_of_lt_of_le b (lit≤ tt)) in
    (t.0, t.1, t.2, t.3, digit_few t.0 n t.2 b)

-- with z places n is from 2 ^ 52 to below 2 ^ 53
exact : (n z j : ℕ) → z + j ≡ 52 → 2 ^ j ≤ n → n < 2 ^ suc j → (2 ^ 52 ≤ n * 2 ^ z) × (n * 2 ^ z < 2 ^ 53)
exact n z j e a b = (
  le_trans (le_of_eq (ap (λ (x : ℕ). 2 ^ x) (sym (turn e)) ∙ pow-add 2 j z)) (mul-le-mul_right (2 ^ z) a),
  lt_of_lt_of_le (mul-lt-mul_of_pos_right b (pow_pos z)) (le_of_eq (sym (pow-add 2 (suc j) z) ∙ ap (λ (x : ℕ). 2 ^ x) (next e))),
)
  where
    turn : z + j ≡ 52 → j + z ≡ 52
    turn e = omega arith

    next : z + j ≡ 52 → suc j + z ≡ 53
    next e = omega arith

moved_at : (n z o : ℕ) → z ≤ 52 → o < 2 → (2 ^ 52 ≤ n * 2 ^ z) × (n * 2 ^ z < 2 ^ 53) → Moved n (z + o)
moved_at n z zero l o h = record {
  low = le_trans h.0 (le_of_eq (ap (λ (x : ℕ). n * 2 ^ x) (sym (native.Mathlib.Nat.add-zero z))));
  high = le_trans (le_of_eq (ap (λ (x : ℕ). n * 2 ^ x) (native.Mathlib.Nat.add-zero z))) (small (n * 2 ^ z) h.1);
  few = omega arith;
}
  where
    small : (a : ℕ) → a < 2 ^ 53 → a ≤ 18014398509481982
    small a h = omega arith
moved_at n z (suc zero) l o h =
    let e : n * 2 ^ (z + 1) ≡ 2 * (n * 2 ^ z) = ap (λ (x : ℕ). n * x) (pow-add 2 z 1) ∙ sym (mul_assoc n (2 ^ z) 2) ∙ mul_comm (n * 2 ^ z) 2 in
    let a = h.0 in
    let b = h.1 in
    record { low = omega arith; high = omega arith; few = omega arith }
moved_at n z (suc (suc o)) l k h = absurd (no o k)
  where
    no : (o : ℕ) → suc (suc o) < 2 → ⊥
    no o k = omega arith

pub moved : (n h : ℕ) → 0 < n → n < 9007199254740992 → Moved n (places n h)
moved n h a b =
    let t = lead_low n a b in
    let L = count_leading_zeros 64 n in
    let i = t.1 in
    let j52 = t.4 in
    let e : L - 11 + t.0 ≡ 52 = omega arith in
    moved_at n (L - 11) ((h + (L - 11)) % 2) (omega arith) (native.Mathlib.Nat.mod-lt (h + (L - 11)) (zero-lt-suc 1)) (exact n (L - 11) t.0 e t.2 t.3)

-- the exponent that is left is even
pub left_even : (n h : ℕ) → 0 < n → n < 9007199254740992 → (places n h ≤ h + 1020) × (h + 1020 ≡ places n h + 2 * ((h + 1020 - places n h) / 2))
left_even n h a b = go (count_leading_zeros 64 n - 11) (moved n h a b).few
  where
    go : (z : ℕ) → z + (h + z) % 2 ≤ 53 → (z + (h + z) % 2 ≤ h + 1020) × (h + 1020 ≡ z + (h + z) % 2 + 2 * ((h + 1020 - (z + (h + z) % 2)) / 2))
    go z l = (omega arith, omega arith)

-- ---- the whole
pub twice_half : (M : ℕ) → 2 * (M * 2 ^ 53) ≡ M * 2 ^ 54
twice_half M = omega arith

-- 2 ^ u is large enough that no odd cut root looks exact
room : (s u : ℕ) → s + 1 < 18014398509481984 → 55 ≤ u → 2 * (s * 2 ^ u) + 1 ≤ 2 ^ u * 2 ^ u
room s u h l =
    let w = 2 ^ u in
    let a : 2 * s + 1 ≤ 2 ^ 55 = omega arith in
    let b : (2 * s + 1) * w ≤ 2 ^ 55 * w = mul-le-mul_right w a in
    let c : 2 ^ 55 * w ≤ w * w = mul-le-mul_right w (pow_mono l) in
    let d : (2 * s + 1) * w ≡ 2 * s * w + w = add-mul (2 * s) 1 w ∙ ap (λ (x : ℕ). 2 * s * w + x) (one-mul w) in
    let e : 2 * s * w ≡ 2 * (s * w) = mul_assoc 2 s w in
    let f : 0 < w = pow_pos u in
    omega arith

pub scale : (n p h u : ℕ) → h + 1020 ≡ p + 2 * u → n * 2 ^ (h + 1074) ≡ 2 * (n * 2 ^ p * 2 ^ 53) * (2 ^ u * 2 ^ u)
scale n p h u e =
    let x : h + 1074 ≡ p + 54 + (u + u) = omega arith in
    ap (λ (k : ℕ). n * 2 ^ k) x
    ∙ ap (λ (k : ℕ). n * k) (pow-add 2 (p + 54) (u + u) ∙ ap (λ (k : ℕ). 2 ^ (p + 54) * k) (pow-add 2 u u) ∙ ap (λ (k : ℕ). k * (2 ^ u * 2 ^ u)) (pow-add 2 p 54))
    ∙ sym (mul_assoc n (2 ^ p * 2 ^ 54) (2 ^ u * 2 ^ u))
    ∙ ap (λ (k : ℕ). k * (2 ^ u * 2 ^ u)) (sym (mul_assoc n (2 ^ p) (2 ^ 54)) ∙ sym (twice_half (n * 2 ^ p)))

pub root_value : (n p h u s : ℕ) → h + 1020 ≡ p + 2 * u → 55 ≤ u → u ≤ 2000 → s + 1 < 18014398509481984 → 9007199254740992 ≤ s → RootOf (n * 2 ^ p * 2 ^ 54) s
    → HasValue (root_at n h) false ((s + 1) / 2 * 2 ^ suc u) (2 ^ 1074)
unfolding root_at
root_value n p h u s e lo hi sh sl r =
    let N = n * 2 ^ p * 2 ^ 53 in
    let S = root_down (n * 2 ^ (h + 1074)) in
    let q = (s + 1) / 2 in
    let R : RootOf (2 * N * (2 ^ u * 2 ^ u)) S = subst (λ (x : ℕ). RootOf x S) (scale n p h u e) (root_is (n * 2 ^ (h + 1074))) in
    let r' : RootOf (2 * N) s = subst (λ (x : ℕ). RootOf x s) (sym (twice_half (n * 2 ^ p))) r in
    let k : closest S (2 * 2 ^ u) ≡ q = key N s (2 ^ u) S (pow_pos u) (room s u sh lo) r' R in
    let low : 2 ^ (53 + u) ≤ S = le_trans (le_of_eq (pow-add 2 53 u)) (le_trans (mul-le-mul_right (2 ^ u) sl) (scaled_low (2 * N) s (2 ^ u) S (pow_pos u) r' R)) in
    let high : S < 2 ^ (54 + u) = lt_of_lt_of_le (scaled_high (2 * N) s (2 ^ u) S (pow_pos u) r' R) (le_trans (mul-le-mul_right (2 ^ u) (le_of_lt sh)) (le_of_eq (sym (pow-add 2 54 u)))) in
    let qh : q < 2 ^ 53 = omega arith in
    let top : q * 2 ^ suc u < 2 ^ (1074 + 1024) = lt_of_lt_of_le (mul-lt-mul_of_pos_right qh (pow_pos (suc u))) (le_trans (le_of_eq (sym (pow-add 2 53 (suc u)))) (pow_mono (reach u hi))) in
    subst (λ (v : Float). HasValue v false (q * 2 ^ suc u) (2 ^ 1074)) (sym (round_root S u q low high k)) (units_val binary64 false q (suc u) top)
  where
    reach : (u : ℕ) → u ≤ 2000 → 53 + suc u ≤ 1074 + 1024
    reach u h = omega arith

pub root_at_lem : (n p h u s : ℕ) → h + 1020 ≡ p + 2 * u → 55 ≤ u → u ≤ 2000 → s + 1 < 18014398509481984 → 9007199254740992 ≤ s → RootOf (n * 2 ^ p * 2 ^ 54) s
    → to_bits binary64 (root_at n h) ≡ (u + 1) * 4503599627370496 + (s + 1) / 2
root_at_lem n p h u s e lo hi sh sl r =
    bits_of (root_at n h) ((s + 1) / 2) (suc u) (omega arith) (omega arith) (root_value n p h u s e lo hi sh sl r) ∙ ap (λ (x : ℕ). x * 4503599627370496 + (s + 1) / 2) (one_up u)
  where
    one_up : (u : ℕ) → suc u ≡ u + 1
    one_up u = omega arith

module _ (n h s : ℕ) (a : 0 < n) (b : n < 9007199254740992) (c : h ≤ 2046) (r : RootOf (n * 2 ^ places n h * 2 ^ 54) s) where
  pub s_high : s + 1 < 18014398509481984
  s_high = up s (root_below s 18014398509481983 (lt_of_le_of_lt r.0 (lt_of_le_of_lt (mul-le-mul_right (2 ^ 54) (moved n h a b).high) (lit< tt))))
    where
      up : (s : ℕ) → s < 18014398509481983 → s + 1 < 18014398509481984
      up s h = omega arith

  pub s_low : 9007199254740992 ≤ s
  s_low = down s (root_below 9007199254740992 (s + 1) (lt_of_le_of_lt (le_trans (lit≤ tt) (mul-le-mul_right (2 ^ 54) (moved n h a b).low)) r.1))
    where
      down : (s : ℕ) → 9007199254740992 < s + 1 → 9007199254740992 ≤ s
      down s h = omega arith

  pub root_pattern : ((h + 1020 - places n h) / 2 + 1) * 4503599627370496 + (s + 1) / 2 ≡ to_bits binary64 (root_at n h)
  root_pattern = go (places n h) (moved n h a b).few (left_even n h a b).1 r
    where
      go : (p : ℕ) → p ≤ 53 → h + 1020 ≡ p + 2 * ((h + 1020 - p) / 2) → RootOf (n * 2 ^ p * 2 ^ 54) s → ((h + 1020 - p) / 2 + 1) * 4503599627370496 + (s + 1) / 2 ≡ to_bits binary64 (root_at n h)
      go p f e r = sym (root_at_lem n p h ((h + 1020 - p) / 2) s e (omega arith) (omega arith) s_high s_low r)

pub no_wrap : (n h : ℕ) → 0 < n → n < 9007199254740992 → n * 2 ^ places n h % 2 ^ 64 ≡ n * 2 ^ places n h
no_wrap n h a b = mod-eq_of_lt (lt_of_le_of_lt (moved n h a b).high (lit< tt))
