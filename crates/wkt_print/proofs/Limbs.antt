-- Rounding n * c / 2 ^ k, with n * c in two limbs: w * 2 ^ 27 + l.
-- Assumes nothing.
use mathlib.Core.Path.{◌≡◌, sym, ap, ◌∙◌, subst}
use Prim.Native.Nat.{ℕ, suc, ◌+◌, ◌-◌, ◌*◌, ◌/◌, ◌%◌, ◌^◌, ◌≤◌, ◌<◌, compare}
use native.Mathlib.Nat.{mul_assoc, mul_right_comm, add-mul, div-add-mod', mod-lt, mul-le-mul_right, mul-le-mul, div-eq_of_lt, mod-eq_of_lt, zero-lt-suc}
use native.Mathlib.Numerals.{add-one}
use native.Mathlib.Omega.{arith}
use lib.Arith.{digits_div, digits_mod}
use lib.Pow.{pow_pos, pow-add, pow_mono}
use lib.Ieee.{nearest}
use lib.Ieee.Nearest.{closest}
use Rattle.wkt.proofs.Compare.{cmp_lt, cmp_eq, cmp_gt}

-- ---- n * c in two limbs
pub prod : (n c : ℕ) → n * c ≡ (n / 134217728 * c + n % 134217728 * c / 134217728) * 134217728 + n % 134217728 * c % 134217728
prod n c =
    let a : n * c ≡ n / 134217728 * 134217728 * c + n % 134217728 * c = ap (λ (x : ℕ). x * c) (sym (div-add-mod' n 134217728)) ∙ add-mul (n / 134217728 * 134217728) (n % 134217728) c in
    let b : n / 134217728 * 134217728 * c ≡ n / 134217728 * c * 134217728 = mul_right_comm (n / 134217728) 134217728 c in
    omega arith

-- ---- a quotient by an even d, and l below it
module _ (w l d v : ℕ) (L : l < v) (D : 0 < d) where
  low : w % d * v + l < d * v
  low =
      let a : suc (w % d) * v ≤ d * v = mul-le-mul_right v (mod-lt w D) in
      let b : suc (w % d) * v ≡ w % d * v + v = native.Mathlib.Nat.suc-mul (w % d) v in
      omega arith

  whole : w * v + l ≡ w / d * (d * v) + (w % d * v + l)
  whole =
      let a : w * v ≡ w / d * d * v + w % d * v = ap (λ (x : ℕ). x * v) (sym (div-add-mod' w d)) ∙ add-mul (w / d * d) (w % d) v in
      let b : w / d * d * v ≡ w / d * (d * v) = mul_assoc (w / d) d v in
      omega arith

  pub limbs : closest (w * v + l) (d * v) ≡ nearest (w / d) (compare ((w % d * v + l) * 2) (d * v))
  limbs =
      let q : (w * v + l) / (d * v) ≡ w / d = ap (λ (x : ℕ). x / (d * v)) whole ∙ digits_div (w / d) low in
      let r : (w * v + l) % (d * v) ≡ w % d * v + l = ap (λ (x : ℕ). x % (d * v)) whole ∙ digits_mod (w / d) low in
      rw (q, r)

  twice : (w % d * v + l) * 2 ≡ 2 * (w % d) * v + 2 * l
  twice =
      let a : 2 * (w % d) * v ≡ 2 * (w % d * v) = mul_assoc 2 (w % d) v in
      omega arith

  -- below a half: 2 r is below d, and both are even
  pub under : (e : ℕ) → d ≡ 2 * e → 2 * (w % d) < d → closest (w * v + l) (d * v) ≡ w / d
  under e E h =
      let g : 2 * (w % d) + 2 ≤ d = omega arith in
      let a : (2 * (w % d) + 2) * v ≤ d * v = mul-le-mul_right v g in
      let b : (2 * (w % d) + 2) * v ≡ 2 * (w % d) * v + 2 * v = add-mul (2 * (w % d)) 2 v in
      limbs ∙ ap (nearest (w / d)) (cmp_lt ((w % d * v + l) * 2) (d * v) (omega (arith, twice)))

  pub half : 2 * (w % d) ≡ d → l ≡ 0 → closest (w * v + l) (d * v) ≡ w / d + w / d % 2
  half h z = limbs ∙ ap (nearest (w / d)) (cmp_eq ((w % d * v + l) * 2) (d * v) (omega (arith, twice, ap (λ (x : ℕ). x * v) h)))

  pub over_half : 2 * (w % d) ≡ d → (l ≡ 0 → ⊥) → closest (w * v + l) (d * v) ≡ w / d + 1
  over_half h z = limbs ∙ ap (nearest (w / d)) (cmp_gt ((w % d * v + l) * 2) (d * v) (omega (arith, twice, ap (λ (x : ℕ). x * v) h, z))) ∙ sym (add-one (w / d))

  pub over : d < 2 * (w % d) → closest (w * v + l) (d * v) ≡ w / d + 1
  over h =
      let a : suc d * v ≤ 2 * (w % d) * v = mul-le-mul_right v h in
      let b : suc d * v ≡ d * v + v = native.Mathlib.Nat.suc-mul d v in
      limbs ∙ ap (nearest (w / d)) (cmp_gt ((w % d * v + l) * 2) (d * v) (omega (arith, twice))) ∙ sym (add-one (w / d))

-- ---- a large divisor
pub none : (n d : ℕ) → n * 2 < d → closest n d ≡ 0
none n d h =
    let s : n < d = omega arith in
    rw (div-eq_of_lt s, mod-eq_of_lt s) (ap (nearest 0) (cmp_lt _ _ h))

pub far : (n c k : ℕ) → n < 9007199254740992 → c ≤ 1000000 → 90 ≤ k → closest (n * c) (2 ^ k) ≡ 0
far n c k N C K =
    let a : n * c ≤ 9007199254740992 * 1000000 = mul-le-mul (native.Mathlib.Nat.le_of_lt N) C in
    let b : 2 ^ 90 ≤ 2 ^ k = pow_mono K in
    none (n * c) (2 ^ k) (omega arith)

pub cut : (k : ℕ) → 28 ≤ k → 2 ^ k ≡ 2 ^ (k - 27) * 134217728
cut k h =
    let e : k - 27 + 27 ≡ k = omega arith in
    ap (λ (x : ℕ). 2 ^ x) (sym e) ∙ pow-add 2 (k - 27) 27

pub even : (k : ℕ) → 28 ≤ k → 2 ^ (k - 27) ≡ 2 * 2 ^ (k - 28)
even k h =
    let e : k - 27 ≡ suc (k - 28) = omega arith in
    ap (λ (x : ℕ). 2 ^ x) e ∙ native.Mathlib.Nat.pow-succ' 2 (k - 28)

pub closest_cut : (n c k : ℕ) → 28 ≤ k → closest (n * c) (2 ^ k) ≡ closest ((n / 134217728 * c + n % 134217728 * c / 134217728) * 134217728 + n % 134217728 * c % 134217728) (2 ^ (k - 27) * 134217728)
closest_cut n c k h = ap (λ (x : ℕ). closest x (2 ^ k)) (prod n c) ∙ ap (λ (x : ℕ). closest ((n / 134217728 * c + n % 134217728 * c / 134217728) * 134217728 + n % 134217728 * c % 134217728) x) (cut k h)

-- ---- what fits
pub b_fits : (n c : ℕ) → c ≤ 1000000 → n % 134217728 * c ≤ 134217728 * 1000000
b_fits n c C = mul-le-mul (native.Mathlib.Nat.le_of_lt (mod-lt n (zero-lt-suc 134217727))) C

pub a_fits : (n c : ℕ) → n < 9007199254740992 → c ≤ 1000000 → n / 134217728 * c ≤ 67108864 * 1000000
a_fits n c N C = let h : n / 134217728 ≤ 67108864 = omega arith in mul-le-mul h C

-- ---- the answers
module _ (n c k d : ℕ) (K : 28 ≤ k) (E : d ≡ 2 ^ (k - 27)) where
  abbrev w : ℕ
  w = n / 134217728 * c + n % 134217728 * c / 134217728

  pub d_pos : 0 < d
  d_pos = subst (λ (x : ℕ). 0 < x) (sym E) (pow_pos (k - 27))

  same : closest (n * c) (2 ^ k) ≡ closest (w * 134217728 + n % 134217728 * c % 134217728) (d * 134217728)
  same = closest_cut n c k K ∙ ap (λ (x : ℕ). closest (w * 134217728 + n % 134217728 * c % 134217728) (x * 134217728)) (sym E)

  l_low : n % 134217728 * c % 134217728 < 134217728
  l_low = mod-lt (n % 134217728 * c) (zero-lt-suc 134217727)

  pub is_under : 2 * (w % d) < d → w / d ≡ closest (n * c) (2 ^ k)
  is_under h = sym (same ∙ under w (n % 134217728 * c % 134217728) d 134217728 l_low d_pos (2 ^ (k - 28)) (E ∙ even k K) h)

  pub is_half : 2 * (w % d) ≡ d → n % 134217728 * c % 134217728 ≡ 0 → w / d + w / d % 2 ≡ closest (n * c) (2 ^ k)
  is_half h z = sym (same ∙ half w (n % 134217728 * c % 134217728) d 134217728 l_low d_pos h z)

  pub is_over_half : 2 * (w % d) ≡ d → (n % 134217728 * c % 134217728 ≡ 0 → ⊥) → w / d + 1 ≡ closest (n * c) (2 ^ k)
  is_over_half h z = sym (same ∙ over_half w (n % 134217728 * c % 134217728) d 134217728 l_low d_pos h z)

  pub is_over : d < 2 * (w % d) → w / d + 1 ≡ closest (n * c) (2 ^ k)
  is_over h = sym (same ∙ over w (n % 134217728 * c % 134217728) d 134217728 l_low d_pos h)

  pub d_small : k < 90 → d ≤ 4611686018427387904
  d_small h = subst (λ (x : ℕ). x ≤ 4611686018427387904) (sym E) (small (k - 27) (omega arith))
    where
      small : (j : ℕ) → j ≤ 62 → 2 ^ j ≤ 4611686018427387904
      small j g = pow_mono {i = j} {j = 62} g

pub div_small : (w d : ℕ) → 0 < d → w / d ≤ w
div_small w d h = native.Mathlib.Nat.div-le_self w d
