-- A NUMBER IS READ AS THE FLOAT NEAREST TO ITS DECIMAL, and as the only one: `decimal_nearest` and `decimal_only`, for every count of digits.
-- Assumes nothing.
use Rattle.std.proofs.Common.{◌≡◌, ℕ, zero, suc, ◌+◌, ◌-◌, ◌*◌, ◌/◌, ◌%◌, ◌^◌, ◌<◌, ◌≤◌, Bool, true, false, not, ◌&&◌, T, eqb, ℤ, pos, sym, refl, ap, ◌∙◌, subst, ⊎_elim, zero-le, le_trans, le_of_eq, le_refl, lt_of_lt_of_le, lt_of_le_of_lt, le_of_lt, lt_irrefl, mul-le-mul_right, mod-lt, zero-lt-suc, mul_assoc, suc-mul, mul_comm, add-mul, mul-le-mul, le_antisymm, lt_of_mul-lt-mul_right, mul-lt-mul_of_pos_right, mul-pos, one-mul, pow-suc, div-add-mod', le-div_iff_mul-le, zero-mul, mul-one, arith, lit<, lit≤, pow_pos, pow_mono, pow-add}
use Prim.Native.Nat.{compare, Ordering}
use native.Mathlib.Nat.{mul-mul-mul_comm, pow-succ', eq_of_mul-eq-mul_right}
use lib.Ieee.{Float, nan, inf, fin, binary64, size, nearest, round, neg, fits, of_bits}
use lib.Ieee.Fits.{round-fits, nearest-le}
use lib.Ieee.Nearest.{closest}
use lib.Ieee.Exact.{HasValue}
use lib.Ieee.Digits.{size_reaches, size-lt, size-le}
use lib.Ieee.Scale.{grid, round_val, round_same}
use lib.Ieee.Bits.{of_bits-to_bits}
use Rattle.num.specs.Root.{in_units}
use Rattle.num.proofs.Whole.{neg_round, small}
use Rattle.num.proofs.NearLaws.{units_are, units_of_value, coarse, same_bits}
use Rattle.lists.proofs.Cases.{lt_or_le}
use Rattle.wkt.specs.Number.{nearest_to, decimal}
use Rattle.wkt.specs.Nearest.{NearestTo, Nearest}
use Rattle.wkt.proofs.Compare.{Cmp, cmp}
use Rattle.wkt.proofs.Numerals.{ten_le}

-- ---- floats of 2 ^ 52 * 2 ^ k units and more are multiples of 2 ^ k
multiple : (n j k : ℕ) → n < 2 ^ 53 → 2 ^ 52 * 2 ^ k ≤ n * 2 ^ j → (c : ℕ) × (n * 2 ^ j ≡ c * 2 ^ k)
multiple n j zero N h = (n * 2 ^ j, sym (mul-one (n * 2 ^ j)))
multiple n j (suc u) N h =
    let e : 2 ^ 52 * 2 ^ suc u ≡ 2 ^ 53 * 2 ^ u = ap (λ (x : ℕ). 2 ^ 52 * x) (pow-succ' 2 u) ∙ sym (mul_assoc (2 ^ 52) 2 (2 ^ u)) in
    let c = coarse n j u N (le_trans (le_of_eq (sym e)) h) in
    (c.0, c.1 ∙ ap (λ (x : ℕ). c.0 * x) (sym (pow-succ' 2 u)))

above : (n j k c : ℕ) → n < 2 ^ 53 → 2 ^ 52 ≤ c → c * 2 ^ k < n * 2 ^ j → suc c * 2 ^ k ≤ n * 2 ^ j
above n j k c N l h =
    let d = multiple n j k N (le_trans (mul-le-mul_right (2 ^ k) l) (le_of_lt h)) in
    le_trans (mul-le-mul_right (2 ^ k) (lt_of_mul-lt-mul_right (2 ^ k) (lt_of_lt_of_le h (le_of_eq d.1)))) (le_of_eq (sym d.1))

below : (n j k q : ℕ) → n < 2 ^ 53 → 2 ^ 52 ≤ q → n * 2 ^ j < suc q * 2 ^ k → n * 2 ^ j ≤ q * 2 ^ k
below n j k q N l h = ⊎_elim (λ s. le_trans (le_of_lt s) (mul-le-mul_right (2 ^ k) l)) (λ b. large b) (lt_or_le (n * 2 ^ j) (2 ^ 52 * 2 ^ k))
  where
    pred : (c : ℕ) → c < suc q → c ≤ q
    pred c h = omega arith

    large : 2 ^ 52 * 2 ^ k ≤ n * 2 ^ j → n * 2 ^ j ≤ q * 2 ^ k
    large b =
        let d = multiple n j k N b in
        le_trans (le_of_eq d.1) (mul-le-mul_right (2 ^ k) (pred d.0 (lt_of_mul-lt-mul_right (2 ^ k) (lt_of_le_of_lt (le_of_eq (sym d.1)) h))))

-- ---- M = q * u + r, with u = b * w: the multiple of w that is nearest to M / b is nearer than any Y beyond its neighbours
module _ (M b w q r Y : ℕ) (B : 0 < b) (whole : q * (b * w) + r ≡ M) (rest : r < b * w) where
  times : (c : ℕ) → c * w * b ≡ c * (b * w)
  times c = mul_assoc c w b ∙ ap (λ (x : ℕ). c * x) (mul_comm w b)

  low_below : Y < q * w → (q * w + Y) * b < 2 * M
  low_below h =
      let a = add-mul (q * w) Y b in
      let t = times q in
      let y = mul-lt-mul_of_pos_right h B in
      omega arith

  low_above : r * 2 < b * w → suc q * w ≤ Y → 2 * M < (q * w + Y) * b
  low_above l h =
      let a = add-mul (q * w) Y b in
      let t = times q in
      let s = times (suc q) in
      let m = suc-mul q (b * w) in
      let y = mul-le-mul_right b h in
      omega arith

  high_below : b * w < r * 2 → Y ≤ q * w → (suc q * w + Y) * b < 2 * M
  high_below l h =
      let a = add-mul (suc q * w) Y b in
      let t = times q in
      let s = times (suc q) in
      let m = suc-mul q (b * w) in
      let y = mul-le-mul_right b h in
      omega arith

  high_above : suc q * w < Y → 2 * M < (suc q * w + Y) * b
  high_above h =
      let a = add-mul (suc q * w) Y b in
      let s = times (suc q) in
      let m = suc-mul q (b * w) in
      let y = mul-lt-mul_of_pos_right h B in
      omega arith

  -- by how twice the rest compares, a tie left out
  sides : (o : Ordering) (n j k : ℕ) → w ≡ 2 ^ k → Y ≡ n * 2 ^ j → n < 2 ^ 53 → 2 ^ 52 ≤ q → Cmp o (r * 2) (b * w) → (r * 2 ≡ b * w → ⊥)
      → (Y < nearest q o * w → (nearest q o * w + Y) * b < 2 * M) × (nearest q o * w < Y → 2 * M < (nearest q o * w + Y) * b)
  sides Ordering.lt n j k e f N l c t = (
    low_below,
    λ h. low_above c (subst (λ (x : ℕ). suc q * x ≤ Y) (sym e) (le_trans (above n j k q N l (lt_of_le_of_lt (le_of_eq (ap (λ (x : ℕ). q * x) (sym e))) (lt_of_lt_of_le h (le_of_eq f)))) (le_of_eq (sym f)))),
  )
  sides Ordering.eq n j k e f N l c t = absurd (t c)
  sides Ordering.gt n j k e f N l c t = (
    λ h. high_below c (subst (λ (x : ℕ). Y ≤ q * x) (sym e) (le_trans (le_of_eq f) (below n j k q N l (lt_of_le_of_lt (le_of_eq (sym f)) (lt_of_lt_of_le h (le_of_eq (ap (λ (x : ℕ). suc q * x) e))))))),
    high_above,
  )

-- ---- no tie: twice the rest is not the divisor, since a has fewer digits than an odd number of half units
odd_power : (q i : ℕ) → (h : ℕ) × ((2 * q + 1) * 5 ^ i ≡ 2 * h + 1)
odd_power q zero = (q, mul-one (2 * q + 1))
odd_power q (suc i) =
    let o = odd_power q i in
    (5 * o.0 + 2, ap (λ (x : ℕ). (2 * q + 1) * x) (pow-suc 5 i) ∙ sym (mul_assoc (2 * q + 1) (5 ^ i) 5) ∙ ap (λ (x : ℕ). x * 5) o.1 ∙ five o.0)
  where
    five : (h : ℕ) → (2 * h + 1) * 5 ≡ 2 * (5 * h + 2) + 1
    five h = omega arith

power_large : (q i : ℕ) → 2 * q + 1 ≤ (2 * q + 1) * 5 ^ i
power_large q i = le_trans (le_of_eq (sym (mul-one (2 * q + 1)))) (mul-le-mul (le_refl (2 * q + 1)) (native.Mathlib.Nat.pow-le-pow_right {n = 5} (zero-lt-suc 4) {i = 0} {j = i} zero-le))

tens : (i : ℕ) → 10 ^ i ≡ 5 ^ i * 2 ^ i
tens zero = refl
tens (suc i) = pow-suc 10 i ∙ ap (λ (x : ℕ). x * 10) (tens i) ∙ mul-mul-mul_comm (5 ^ i) (2 ^ i) 5 2 ∙ sym (ap (λ (x : ℕ). x * 2 ^ suc i) (pow-suc 5 i) ∙ ap (λ (x : ℕ). 5 ^ i * 5 * x) (pow-suc 2 i))

-- a * 2 ^ t = o * 2 ^ s with an odd o: o is no larger than a
odd_part : (a t h s : ℕ) → a * 2 ^ t ≡ (2 * h + 1) * 2 ^ s → 2 * h + 1 ≤ a
odd_part a t h s e = ⊎_elim few many (lt_or_le s t)
  where
    many : t ≤ s → 2 * h + 1 ≤ a
    many l =
        let p : 2 ^ s ≡ 2 ^ (s - t) * 2 ^ t = ap (λ (x : ℕ). 2 ^ x) (sym (lib.Ieee.Digits.back s t l)) ∙ pow-add 2 (s - t) t in
        let f : a ≡ (2 * h + 1) * 2 ^ (s - t) = eq_of_mul-eq-mul_right (2 ^ t) (pow_pos t) a ((2 * h + 1) * 2 ^ (s - t)) (e ∙ ap (λ (x : ℕ). (2 * h + 1) * x) p ∙ sym (mul_assoc (2 * h + 1) (2 ^ (s - t)) (2 ^ t))) in
        le_trans (le_of_eq (sym (mul-one (2 * h + 1)))) (le_trans (mul-le-mul (le_refl (2 * h + 1)) (pow_pos (s - t))) (le_of_eq (sym f)))

    few : s < t → 2 * h + 1 ≤ a
    few l =
        let d : t - s ≡ suc (t - s - 1) = omega arith in
        let b : t - s + s ≡ t = omega arith in
        let p : 2 ^ t ≡ 2 ^ (t - s) * 2 ^ s = ap (λ (x : ℕ). 2 ^ x) (sym b) ∙ pow-add 2 (t - s) s in
        let f : a * 2 ^ (t - s) ≡ 2 * h + 1 = eq_of_mul-eq-mul_right (2 ^ s) (pow_pos s) (a * 2 ^ (t - s)) (2 * h + 1) (mul_assoc a (2 ^ (t - s)) (2 ^ s) ∙ ap (λ (x : ℕ). a * x) (sym p) ∙ e) in
        let g : a * 2 ^ (t - s) ≡ a * 2 ^ (t - s - 1) * 2 = ap (λ (x : ℕ). a * x) (ap (λ (x : ℕ). 2 ^ x) d ∙ pow-suc 2 (t - s - 1)) ∙ sym (mul_assoc a (2 ^ (t - s - 1)) 2) in
        absurd (parity (a * 2 ^ (t - s - 1)) h (sym g ∙ f))
      where
        parity : (x h : ℕ) → x * 2 ≡ 2 * h + 1 → ⊥
        parity x h e = omega arith

no_tie : (a i k q r : ℕ) → a < 10 ^ 15 → 2 ^ 52 ≤ q → q * (10 ^ i * 2 ^ k) + r ≡ a * 2 ^ 1074 → r * 2 ≡ 10 ^ i * 2 ^ k → ⊥
no_tie a i k q r A l e h =
    let u = 10 ^ i * 2 ^ k in
    let o = odd_power q i in
    let twice : a * 2 ^ 1075 ≡ (2 * q + 1) * u = ap (λ (x : ℕ). a * x) (pow-suc 2 1074) ∙ sym (mul_assoc a (2 ^ 1074) 2) ∙ doubled q r u (a * 2 ^ 1074) e h in
    let parts : (2 * q + 1) * u ≡ (2 * o.0 + 1) * 2 ^ (i + k) = ap (λ (x : ℕ). (2 * q + 1) * (x * 2 ^ k)) (tens i) ∙ ap (λ (x : ℕ). (2 * q + 1) * x) (mul_assoc (5 ^ i) (2 ^ i) (2 ^ k)) ∙ sym (mul_assoc (2 * q + 1) (5 ^ i) (2 ^ i * 2 ^ k)) ∙ ap (λ (x : ℕ). x * (2 ^ i * 2 ^ k)) o.1 ∙ ap (λ (x : ℕ). (2 * o.0 + 1) * x) (sym (pow-add 2 i k)) in
    let least = odd_part a 1075 o.0 (i + k) (twice ∙ parts) in
    let large = power_large q i in
    let same = o.1 in
    omega arith
  where
    doubled : (q r u m : ℕ) → q * u + r ≡ m → r * 2 ≡ u → m * 2 ≡ (2 * q + 1) * u
    doubled q r u m e h =
        let s : (2 * q + 1) * u ≡ 2 * (q * u) + u = add-mul (2 * q) 1 u ∙ ap (λ (x : ℕ). 2 * q * u + x) (one-mul u) ∙ ap (λ (x : ℕ). x + u) (mul_assoc 2 q u) in
        omega arith

-- ---- a decimal that is not 0
module _ (a i : ℕ) (A : 0 < a) (top : a < 10 ^ 15) (I : i ≤ 15) where
  abbrev M : ℕ
  M = a * 2 ^ 1074

  abbrev b : ℕ
  b = 10 ^ i

  abbrev k : ℕ
  k = size (a * 2 ^ 1074 / 10 ^ i) - 53

  abbrev u : ℕ
  u = 10 ^ i * 2 ^ (size (a * 2 ^ 1074 / 10 ^ i) - 53)

  b_pos : 0 < 10 ^ i
  b_pos = le_trans (le_refl 1) (ten_le 0 i zero-le)

  -- in units it has at least 53 digits
  wide : 2 ^ 52 ≤ a * 2 ^ 1074 / 10 ^ i
  wide =
      let t = ten_le i 15 I in
      let p : 2 ^ 52 * 10 ^ i ≤ 2 ^ 1074 = le_trans (mul-le-mul (le_refl (2 ^ 52)) t) (lit≤ tt) in
      (le-div_iff_mul-le b_pos).1 (le_trans p (le_trans (le_of_eq (sym (one-mul (2 ^ 1074)))) (mul-le-mul_right (2 ^ 1074) A)))

  digits_many : 53 ≤ size (a * 2 ^ 1074 / 10 ^ i)
  digits_many = ⊎_elim (λ s. absurd (lt_irrefl (2 ^ 52) (lt_of_le_of_lt wide (short s)))) (λ g. g) (lt_or_le (size (a * 2 ^ 1074 / 10 ^ i)) 53)
    where
      short : size (a * 2 ^ 1074 / 10 ^ i) < 53 → a * 2 ^ 1074 / 10 ^ i < 2 ^ 52
      short s = lt_of_lt_of_le (size-lt (a * 2 ^ 1074 / 10 ^ i)) (pow_mono (pred (size (a * 2 ^ 1074 / 10 ^ i)) s))
        where
          pred : (z : ℕ) → z < 53 → z ≤ 52
          pred z h = omega arith

  pub kept_many : 2 ^ 52 ≤ a * 2 ^ 1074 / u
  kept_many =
      let z = size (a * 2 ^ 1074 / 10 ^ i) in
      let e : 2 ^ 52 * u ≡ 2 ^ (52 + k) * 10 ^ i = ap (λ (x : ℕ). 2 ^ 52 * x) (mul_comm (10 ^ i) (2 ^ k)) ∙ sym (mul_assoc (2 ^ 52) (2 ^ k) (10 ^ i)) ∙ ap (λ (x : ℕ). x * 10 ^ i) (sym (pow-add 2 52 k)) in
      (le-div_iff_mul-le (mul-pos b_pos (pow_pos k))).1 (le_trans (le_of_eq e) ((le-div_iff_mul-le b_pos).0 (size_reaches (a * 2 ^ 1074 / 10 ^ i) (52 + k) (in_size z digits_many))))
    where
      in_size : (z : ℕ) → 53 ≤ z → 52 + (z - 53) < z
      in_size z h = omega arith

  -- and far fewer than an infinity
  dropped_few : k ≤ 1071
  dropped_few =
      let few : a * 2 ^ 1074 / 10 ^ i < 2 ^ 1124 = lt_of_le_of_lt (native.Mathlib.Nat.div-le_self (a * 2 ^ 1074) (10 ^ i)) (lt_of_lt_of_le (mul-lt-mul_of_pos_right top (pow_pos 1074)) (lit≤ tt)) in
      less (size (a * 2 ^ 1074 / 10 ^ i)) (size-le (a * 2 ^ 1074 / 10 ^ i) 1124 few)
    where
      less : (z : ℕ) → z ≤ 1124 → z - 53 ≤ 1071
      less z h = omega arith

  kept_few : a * 2 ^ 1074 / u < 2 ^ 53
  kept_few = subst (λ (x : ℕ). x < 2 ^ 53) (native.Mathlib.Nat.div-div-eq-div-mul (a * 2 ^ 1074) (10 ^ i) (2 ^ k)) (lib.Ieee.Fits.kept-lt 53 (a * 2 ^ 1074 / 10 ^ i))

  pub under : grid binary64 a (10 ^ i) < 2 ^ 2098
  under =
      let c : closest (a * 2 ^ 1074) u ≤ 2 ^ 53 = le_trans (nearest-le (a * 2 ^ 1074 / u) (compare (a * 2 ^ 1074 % u * 2) u)) kept_few in
      lt_of_le_of_lt (mul-le-mul c (pow_mono dropped_few)) (lit< tt)

  units_is : in_units (round binary64 false a (10 ^ i)) ≡ closest (a * 2 ^ 1074) u * 2 ^ k
  units_is = units_of_value (round binary64 false a (10 ^ i)) false (grid binary64 a (10 ^ i)) (round_val binary64 a (10 ^ i) under)

  finite : (m : ℕ) × (e : ℤ) × (round binary64 false a (10 ^ i) ≡ fin false m e)
  finite = go (round binary64 false a (10 ^ i)) (round_val binary64 a (10 ^ i) under)
    where
      go : (x : Float) → HasValue x false (grid binary64 a (10 ^ i)) (2 ^ 1074) → (m : ℕ) × (e : ℤ) × (x ≡ fin false m e)
      go nan h = absurd h
      go (inf s) h = absurd h
      go (fin s m e) h = (m, e, ap (λ (t : Bool). fin t m e) h.0)

  near : NearestTo a (10 ^ i) (round binary64 false a (10 ^ i))
  near n d f =
      let y = units_are false n d f in
      let q = a * 2 ^ 1074 / u in
      let r = a * 2 ^ 1074 % u in
      let e : q * (10 ^ i * 2 ^ k) + r ≡ a * 2 ^ 1074 = div-add-mod' (a * 2 ^ 1074) u in
      let s = sides (a * 2 ^ 1074) (10 ^ i) (2 ^ k) q r (in_units (fin false n d)) b_pos e (mod-lt (a * 2 ^ 1074) (mul-pos b_pos (pow_pos k))) (compare (r * 2) u) n y.0 k refl y.1 (small false n d f) kept_many (cmp (r * 2) u) (no_tie a i k q r top kept_many e) in (
        λ h. subst (λ (x : ℕ). (x + in_units (fin false n d)) * 10 ^ i < 2 * (a * 2 ^ 1074)) (sym units_is) (s.0 (lt_of_lt_of_le h (le_of_eq units_is))),
        λ h. subst (λ (x : ℕ). 2 * (a * 2 ^ 1074) < (x + in_units (fin false n d)) * 10 ^ i) (sym units_is) (s.1 (lt_of_le_of_lt (le_of_eq (sym units_is)) h)),
      )

-- ---- zero
pub zero_is : (i : ℕ) → round binary64 false 0 (10 ^ i) ≡ fin false 0 (pos 0)
zero_is i = round_same binary64 false 0 (10 ^ i) 0 1 (ten_le 0 i zero-le) (le_refl 1) (zero-mul 1 ∙ sym (zero-mul (10 ^ i))) ∙ plain_zero
  where
    plain_zero : round binary64 false 0 1 ≡ fin false 0 (pos 0)
    plain_zero = unfold round in refl

near_zero : (b : ℕ) → 0 < b → NearestTo 0 b (fin false 0 (pos 0))
near_zero b B n d f = (λ h. absurd (none (in_units (fin false n d)) h), λ h. lt_of_le_of_lt (le_of_eq (ap (λ (x : ℕ). 2 * x) (zero-mul (2 ^ 1074)))) (mul-pos (some (in_units (fin false n d)) h) B))
  where
    none : (y : ℕ) → y < in_units (fin false 0 (pos 0)) → ⊥
    none y h = lt_irrefl 0 (lt_of_le_of_lt zero-le (lt_of_lt_of_le h (le_of_eq zero_units)))
      where
        zero_units : in_units (fin false 0 (pos 0)) ≡ 0
        zero_units = refl

    some : (y : ℕ) → in_units (fin false 0 (pos 0)) < y → 0 < in_units (fin false 0 (pos 0)) + y
    some y h = omega arith

-- ---- the size, and then the sign
pub record Sized (a b : ℕ) : Type 0 where
  pub digits : ℕ
  pub exponent : ℤ
  pub is : round binary64 false a b ≡ fin false digits exponent
  pub near : NearestTo a b (fin false digits exponent)

sized : (a i : ℕ) → a < 10 ^ 15 → i ≤ 15 → Sized a (10 ^ i)
sized zero i h l = record { digits = 0; exponent = pos 0; is = zero_is i; near = near_zero (10 ^ i) (ten_le 0 i zero-le) }
sized (suc a) i h l =
    let f = finite (suc a) i (zero-lt-suc a) h l in
    record { digits = f.0; exponent = f.1; is = f.2; near = subst (NearestTo (suc a) (10 ^ i)) f.2 (near (suc a) i (zero-lt-suc a) h l) }

pub signed : (t : Bool) (a b m : ℕ) (e : ℤ) → round binary64 false a b ≡ fin false m e → round binary64 t a b ≡ fin t m e
signed false a b m e h = h
signed true a b m e h = sym (neg_round binary64 false a b) ∙ ap neg h ∙ turned
  where
    turned : neg (fin false m e) ≡ fin true m e
    turned = unfold neg in refl

pub nearest_is : (s : Bool) (a b : ℕ) → nearest_to s a b ≡ round binary64 (s && not (eqb a 0)) a b
nearest_is s a b = unfold nearest_to in refl

-- ---- THE THEOREM: n before the point and v in k digits after it, in at most 15 digits
pub decimal_nearest : (s : Bool) (n v k : ℕ) → n * 10 ^ k + v < 10 ^ 15 → k ≤ 15 → Nearest s (n * 10 ^ k + v) (10 ^ k) (decimal s n v k)
decimal_nearest s n v k h l =
    let a = n * 10 ^ k + v in
    let z = sized a k h l in
    let e = signed (s && not (eqb a 0)) a (10 ^ k) z.digits z.exponent z.is in
    record {
      digits = z.digits;
      exponent = z.exponent;
      is = nearest_is s a (10 ^ k) ∙ e;
      of_format = subst (λ (x : Float). T (fits binary64 x)) (sym (nearest_is s a (10 ^ k))) (round-fits binary64 (s && not (eqb a 0)) a (10 ^ k));
      nearest = subst (NearestTo a (10 ^ k)) (sym (nearest_is s a (10 ^ k) ∙ e)) z.near;
    }

-- ---- and no second float is
fits_size : (t : Bool) (m : ℕ) (e : ℤ) → T (fits binary64 (fin t m e)) → T (fits binary64 (fin false m e))
unfolding fits
fits_size t zero e h = h
fits_size t (suc m) e h = h

pub decimal_only : (s : Bool) (a b : ℕ) (x y : Float) → Nearest s a b x → Nearest s a b y → x ≡ y
decimal_only s a b x y p q = p.is ∙ sym (of_bits-to_bits binary64 (fin t m e) fp) ∙ ap (of_bits binary64) (same_bits t m e n d same) ∙ of_bits-to_bits binary64 (fin t n d) fq ∙ sym q.is
  where
    t : Bool
    t = s && not (eqb a 0)

    m : ℕ
    m = p.digits

    n : ℕ
    n = q.digits

    e : ℤ
    e = p.exponent

    d : ℤ
    d = q.exponent

    fp : T (fits binary64 (fin t m e))
    fp = subst (λ (z : Float). T (fits binary64 z)) p.is p.of_format

    fq : T (fits binary64 (fin t n d))
    fq = subst (λ (z : Float). T (fits binary64 z)) q.is q.of_format

    np : NearestTo a b (fin t m e)
    np = subst (NearestTo a b) p.is p.nearest

    nq : NearestTo a b (fin t n d)
    nq = subst (NearestTo a b) q.is q.nearest

    no_more : (A B X : ℕ) → (B < A → (A + B) * b < X) → (B < A → X < (B + A) * b) → A ≤ B
    no_more A B X f g = ⊎_elim (λ h. absurd (lt_irrefl X (lt_of_lt_of_le (g h) (le_trans (le_of_eq (ap (λ (z : ℕ). z * b) (native.Mathlib.Nat.add_comm B A))) (le_of_lt (f h)))))) (λ h. h) (lt_or_le B A)

    same : in_units (fin t m e) ≡ in_units (fin t n d)
    same =
        le_antisymm
        (no_more (in_units (fin t m e)) (in_units (fin t n d)) (2 * (a * 2 ^ 1074)) (λ h. (np n d (fits_size t n d fq)).0 h) (λ h. (nq m e (fits_size t m e fp)).1 h))
        (no_more (in_units (fin t n d)) (in_units (fin t m e)) (2 * (a * 2 ^ 1074)) (λ h. (nq m e (fits_size t m e fp)).0 h) (λ h. (np n d (fits_size t n d fq)).1 h))
