-- Facts on floats that several leaves share: a test that is true or false, a rounded number's sign, and floats that are whole numbers. Assumes nothing.
use Rattle.std.proofs.Common.{◌≡◌, ℕ, zero, suc, ◌+◌, ◌*◌, ◌%◌, ◌^◌, ◌<◌, ◌≤◌, Bool, true, false, cond, not, ◌&&◌, T, eqb, ltb, leb, ℤ, pos, negsuc, sym, refl, ap, ◌∙◌, subst, le_trans, le_of_eq, lt_of_lt_of_le, lt_of_le_of_lt, zero-lt-suc, mul_assoc, mul_comm, mul-lt-mul_of_pos_right, mul-pos, zero-mul, mul-one, arith, lit<, ltb→lt, pow_pos, pow-add}
use native.Mathlib.Nat.{pow-succ'}
use lib.Ieee.{inf, fin, Format, binary64, prec, emax, low, up, down, odd, units, round, neg, fits}
use lib.Ieee.Fits.{round_is, round-fits, and_l, and_r, down_pos}
use lib.Ieee.Exact.{HasValue, round_exact}
use lib.Ieee.Back.{whole_unique}

pub yes : {b : Bool} → b ≡ true → T b
yes e = subst T (sym e) tt

pub nay : {b : Bool} → b ≡ false → T (not b)
nay e = subst (λ (b : Bool). T (not b)) (sym e) tt

-- ---- the sign of a rounded number
neg_odd : (d : ℕ) (s : Bool) (q k l : ℕ) → neg (odd d s q k l) ≡ odd d (not s) q k l
unfolding neg odd
neg_odd d s zero k l = refl
neg_odd d s (suc q) k l = refl

neg_units : (f : Format) (s : Bool) (q k : ℕ) → neg (units f s q k) ≡ units f (not s) q k
unfolding units
neg_units f s q k = go (ltb (q * 2 ^ k) (2 ^ (low f + suc (emax f))))
  where
    go : (b : Bool) → neg (cond b (odd (suc (prec f)) s q k (low f)) (inf s)) ≡ cond b (odd (suc (prec f)) (not s) q k (low f)) (inf (not s))
    go true = neg_odd (suc (prec f)) s q k (low f)
    go false = unfold neg in refl

pub neg_round : (f : Format) (s : Bool) (a b : ℕ) → neg (round f s a b) ≡ round f (not s) a b
neg_round f s a b = ap neg (round_is f s a b) ∙ neg_units f s _ _ ∙ sym (round_is f (not s) a b)

-- ---- what fits
pub small : (s : Bool) (m : ℕ) (e : ℤ) → T (fits binary64 (fin s m e)) → m < 2 ^ 53
unfolding fits
small s zero e t = lit< tt
small s (suc m) e t =
    ltb→lt (suc m) (2 ^ 53) (and_r (eqb (suc m % 2) 1) (ltb (suc m) (2 ^ 53)) (and_l (eqb (suc m % 2) 1 && ltb (suc m) (2 ^ 53)) (leb (down e) (2 ^ 1074))
    (and_l (eqb (suc m % 2) 1 && ltb (suc m) (2 ^ 53) && leb (down e) (2 ^ 1074)) (ltb (suc m * up e) (2 ^ 1024 * down e)) t)))

pub under_top : (s : Bool) (m : ℕ) (e : ℤ) → T (fits binary64 (fin s m e)) → m * up e < 2 ^ 1024 * down e
unfolding fits
under_top s zero e t = lt_of_le_of_lt (le_of_eq (zero-mul (up e))) (mul-pos (pow_pos 1024) (down_pos e))
under_top s (suc m) e t =
    ltb→lt (suc m * up e) (2 ^ 1024 * down e) (and_r (eqb (suc m % 2) 1 && ltb (suc m) (2 ^ 53) && leb (down e) (2 ^ 1074)) (ltb (suc m * up e) (2 ^ 1024 * down e)) t)

-- a float with no fraction is its own magnitude, rounded
pub whole_same : (s : Bool) (m k : ℕ) → T (fits binary64 (fin s m (pos k))) → round binary64 s (m * 2 ^ k) 1 ≡ fin s m (pos k)
whole_same s m k t =
    let a : m * 2 ^ k < 2 ^ 1024 = lt_of_lt_of_le (under_top s m (pos k) t) (le_of_eq (mul-one (2 ^ 1024))) in
    let p : m * 2 ^ (k + 1074) ≡ m * 2 ^ k * 2 ^ 1074 = ap (λ (x : ℕ). m * x) (pow-add 2 k 1074) ∙ sym (mul_assoc m (2 ^ k) (2 ^ 1074)) in
    let r : HasValue (round binary64 s (m * 2 ^ k) 1) s (m * 2 ^ k) 1 =
    round_exact binary64 s (m * 2 ^ k) 1 m (k + 1074) (zero-lt-suc 0) (small s m (pos k) t)
    (lt_of_le_of_lt (le_of_eq p) (lt_of_lt_of_le (mul-lt-mul_of_pos_right a (pow_pos 1074)) (le_of_eq (mul_comm (2 ^ 1024) (2 ^ 1074) ∙ sym (pow-add 2 1074 1024)))))
    (sym p ∙ sym (mul-one (m * 2 ^ (k + 1074)))) in
    whole_unique binary64 (round binary64 s (m * 2 ^ k) 1) (fin s m (pos k)) s (m * 2 ^ k) (round-fits binary64 s (m * 2 ^ k) 1) t r (refl, refl)

-- a float that is c in size is c, rounded
pub whole_is : (s : Bool) (m : ℕ) (e : ℤ) (c : ℕ) → T (fits binary64 (fin s m e)) → HasValue (round binary64 s c 1) s c 1 → m * up e ≡ c * down e → round binary64 s c 1 ≡ fin s m e
whole_is s m e c t r h = whole_unique binary64 (round binary64 s c 1) (fin s m e) s c (round-fits binary64 s c 1) t r (refl, mul-one (m * up e) ∙ h)

-- a float from 2 ^ 52 on has no fraction
no_half : (m p : ℕ) → m < 2 ^ 53 → 0 < p → 2 ^ 52 * (2 * p) ≤ m → ⊥
no_half m p a b c = omega arith

pub big_whole : (s : Bool) (m : ℕ) (e : ℤ) → T (fits binary64 (fin s m e)) → 2 ^ 52 * down e ≤ m * up e → (k : ℕ) × (e ≡ pos k)
big_whole s m (pos k) t h = (k, refl)
big_whole s m (negsuc k) t h =
    absurd (no_half m (2 ^ k) (small s m (negsuc k) t) (pow_pos k) (le_trans (le_of_eq (ap (λ (x : ℕ). 2 ^ 52 * x) (sym (pow-succ' 2 k)))) (le_trans h (le_of_eq (mul-one m)))))
