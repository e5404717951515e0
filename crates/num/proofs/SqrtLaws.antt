-- A positive float's digits are those of its bit pattern, and its root is `root_at` of them. Assumes nothing.
use Rattle.std.proofs.Common.{◌≡◌, ℕ, zero, suc, ◌+◌, ◌-◌, ◌*◌, ◌/◌, ◌%◌, ◌^◌, ◌<◌, ◌≤◌, Bool, true, false, cond, not, T, eqb, ltb, leb, ◌⊎◌, ℤ, sym, refl, ap, ◌∙◌, subst, inl, inr, true≢false, mod-eq_of_lt, zero-lt-suc, mul_assoc, div-lt_iff_lt-mul, mul-pos, zero-mul, mul_right_comm, mul-div_cancel, arith, ltb→lt, T_not, pow_pos, pow-add}
use mathlib.Core.Bool.{false≢true}
use lib.Dec.{nleb→lt, eqb_refl}
use lib.Ieee.{Float, Format, binary64, nan, inf, fin, up, down, prec, low, emax, odd, units, round, to_bits, of_bits, of_fields, nan_bits, is_nan, fits, lt, eq}
use lib.Ieee.Fits.{down_pos, up_pos, round_is, round-fits}
use lib.Ieee.Exact.{HasValue, odd_sign}
use lib.Ieee.Bits.{of_bits-to_bits, nan_bits_is}
use Rattle.num.specs.Root.{root_down, root_at, sqrt_of}
use Rattle.num.proofs.Whole.{yes, nay}
use Rattle.num.proofs.FloorLaws.{nought}
use Rattle.num.proofs.CompareLaws.{zero_m, zero_eq, some_suc}

-- ---- the sign of what is read
abbrev Signed : Float → Bool → Type 0
Signed nan s = Unit {0}
Signed (inf t) s = t ≡ s
Signed (fin t m e) s = t ≡ s

odd_signed : (d : ℕ) (s : Bool) (q k l : ℕ) → Signed (odd d s q k l) s
unfolding odd
odd_signed d s zero k l = refl
odd_signed d s (suc q) k l = refl

fields_signed : (s : Bool) (x t : ℕ) → Signed (of_fields binary64 s x t) s
unfolding of_fields
fields_signed s zero t = odd_signed 53 s t 0 1074
fields_signed s (suc x) t = go (eqb (suc x) 2047) (eqb t 0)
  where
    go : (a b : Bool) → Signed (cond a (cond b (inf s) nan) (odd 53 s (4503599627370496 + t) x 1074)) s
    go true true = refl
    go true false = tt
    go false b = odd_signed 53 s (4503599627370496 + t) x 1074

-- what three fields of a finite value say of it
abbrev pub Read : Float → ℕ → ℕ → Type 0
Read v zero t = HasValue v false (t * 2 ^ 0) (2 ^ 1074)
Read v (suc g) t = HasValue v false ((t + 4503599627370496) * 2 ^ g) (2 ^ 1074) × (g ≤ 2045)

abbrev Finite : Float → Type 0
Finite nan = ⊥
Finite (inf s) = ⊥
Finite (fin s m e) = Unit {0}

fields_read : (x t : ℕ) → x < 2048 → Finite (of_fields binary64 false x t) → Read (of_fields binary64 false x t) x t
unfolding of_fields
fields_read zero t l f = odd_sign 53 false t 0 1074
fields_read (suc x) t l f = go (eqb (suc x) 2047) (eqb t 0) (λ (e : suc x ≡ 2047). subst (λ (y : ℕ). T (eqb (suc x) y)) e (eqb_refl (suc x))) f
  where
    le : (suc x ≡ 2047 → ⊥) → x ≤ 2045
    le n = less (lib.Arith.lt_of_le-ne (up_to l) n)
      where
        up_to : suc x < 2048 → suc x ≤ 2047
        up_to h = omega arith

        less : suc x < 2047 → x ≤ 2045
        less h = omega arith

    go : (a b : Bool) → (suc x ≡ 2047 → T a) → Finite (cond a (cond b (inf false) nan) (odd 53 false (4503599627370496 + t) x 1074))
        → Read (cond a (cond b (inf false) nan) (odd 53 false (4503599627370496 + t) x 1074)) (suc x) t
    go true true n f = absurd f
    go true false n f = absurd f
    go false b n f = (subst (λ (y : ℕ). HasValue (odd 53 false (4503599627370496 + t) x 1074) false (y * 2 ^ x) (2 ^ 1074)) (native.Mathlib.Nat.add_comm 4503599627370496 t) (odd_sign 53 false (4503599627370496 + t) x 1074), le n)

of_bits_is : (b : ℕ) → of_bits binary64 b ≡ of_fields binary64 (leb 9223372036854775808 b) (b % 9223372036854775808 / 4503599627370496) (b % 4503599627370496)
unfolding of_bits
of_bits_is b = refl

pub read : (m : ℕ) (e : ℤ) (b : ℕ) → of_bits binary64 b ≡ fin false m e → Read (fin false m e) (b / 4503599627370496) (b % 4503599627370496)
read m e b h = go (leb 9223372036854775808 b) (nleb→lt 9223372036854775808 b) (sym (of_bits_is b) ∙ h)
  where
    go : (s : Bool) → (T (not s) → b < 9223372036854775808) → of_fields binary64 s (b % 9223372036854775808 / 4503599627370496) (b % 4503599627370496) ≡ fin false m e → Read (fin false m e) (b / 4503599627370496) (b % 4503599627370496)
    go true l p = absurd (false≢true (subst (λ (v : Float). Signed v true) p (fields_signed true (b % 9223372036854775808 / 4503599627370496) (b % 4503599627370496))))
    go false l p =
        let q : of_fields binary64 false (b / 4503599627370496) (b % 4503599627370496) ≡ fin false m e = ap (λ (y : ℕ). of_fields binary64 false (y / 4503599627370496) (b % 4503599627370496)) (sym (mod-eq_of_lt (l tt))) ∙ p in
        subst (λ (v : Float). Read v (b / 4503599627370496) (b % 4503599627370496)) q
        (fields_read (b / 4503599627370496) (b % 4503599627370496) ((div-lt_iff_lt-mul {k = 4503599627370496} (zero-lt-suc 4503599627370495)).1 (l tt)) (subst Finite (sym q) tt))

-- ---- the root by such digits
pub root_by : (m : ℕ) (e : ℤ) (n h : ℕ) → HasValue (fin false (suc m) e) false (n * 2 ^ h) (2 ^ 1074) → (0 < n) × (sqrt_of (fin false (suc m) e) ≡ root_at n h)
unfolding sqrt_of root_at
root_by m e n h v =
    let two : 4 ^ 1074 ≡ 2 ^ 1074 * 2 ^ 1074 = refl in
    let a : suc m * up e * 4 ^ 1074 ≡ n * 2 ^ (h + 1074) * down e =
    sym (mul_assoc (suc m * up e) (2 ^ 1074) (2 ^ 1074)) ∙ ap (λ (x : ℕ). x * 2 ^ 1074) v.1 ∙ mul_right_comm (n * 2 ^ h) (down e) (2 ^ 1074)
    ∙ ap (λ (x : ℕ). x * down e) (mul_assoc n (2 ^ h) (2 ^ 1074) ∙ ap (λ (x : ℕ). n * x) (sym (pow-add 2 h 1074))) in (
      lib.Ieee.Positive.first_pos n (2 ^ h) (lib.Ieee.Positive.first_pos (n * 2 ^ h) (down e) (subst (λ (x : ℕ). 0 < x) v.1 (mul-pos (mul-pos (zero-lt-suc m) (up_pos e)) (pow_pos 1074)))),
      ap (λ (x : ℕ). round binary64 false (root_down x) (2 ^ 1074)) (ap (λ (x : ℕ). x / down e) a ∙ mul-div_cancel (n * 2 ^ (h + 1074)) (down_pos e)),
    )

-- ---- a rounded number is no NaN
units_no_nan : (f : Format) (s : Bool) (q k : ℕ) → is_nan (units f s q k) ≡ false
unfolding units is_nan
units_no_nan f s q k = go (ltb (q * 2 ^ k) (2 ^ (low f + suc (emax f)))) q
  where
    odd_no : (d : ℕ) (q k l : ℕ) → is_nan (odd d s q k l) ≡ false
    odd_no d zero k l = unfold odd in refl
    odd_no d (suc q) k l = unfold odd in refl

    go : (b : Bool) (q : ℕ) → is_nan (cond b (odd (suc (prec f)) s q k (low f)) (inf s)) ≡ false
    go true q = odd_no (suc (prec f)) q k (low f)
    go false q = refl

pub round_no_nan : (f : Format) (s : Bool) (a b : ℕ) → is_nan (round f s a b) ≡ false
round_no_nan f s a b = ap is_nan (round_is f s a b) ∙ units_no_nan f s _ _

root_at_is : (n h : ℕ) → root_at n h ≡ round binary64 false (root_down (n * 2 ^ (h + 1074))) (2 ^ 1074)
unfolding root_at
root_at_is n h = refl

pub pattern_ok : (n h b : ℕ) → b ≡ to_bits binary64 (root_at n h) → T (not (nan_bits binary64 b)) × (of_bits binary64 b ≡ root_at n h)
pattern_ok n h b e =
    let S = root_down (n * 2 ^ (h + 1074)) in
    let f : T (fits binary64 (root_at n h)) = subst (λ (x : Float). T (fits binary64 x)) (sym (root_at_is n h)) (round-fits binary64 false S (2 ^ 1074)) in
    let back : of_bits binary64 b ≡ root_at n h = ap (of_bits binary64) e ∙ of_bits-to_bits binary64 (root_at n h) f in
    (nay (nan_bits_is binary64 b ∙ ap is_nan back ∙ ap is_nan (root_at_is n h) ∙ round_no_nan binary64 false S (2 ^ 1074)), back)

-- ---- by what `sqrt` tests
abbrev top : Float
top = inf false

pub number : (x : Float) → lt nought x ≡ true → T (not (is_nan x))
unfolding lt is_nan
number nan h = absurd (false≢true h)
number (inf s) h = tt
number (fin s m e) h = tt

no_gain : (d u : ℕ) → 0 * 1 * d < 0 * u * 1 → ⊥
no_gain d u h = omega (arith, zero-mul d, zero-mul u)

pub positive : (x : Float) → lt nought x ≡ true → lt x top ≡ true → (m : ℕ) × (e : ℤ) × (x ≡ fin false (suc m) e)
unfolding lt
positive nan p q = absurd (false≢true p)
positive (inf true) p q = absurd (false≢true p)
positive (inf false) p q = absurd (false≢true q)
positive (fin true m e) p q = absurd (false≢true p)
positive (fin false zero e) p q = absurd (no_gain (down e) (up e) (ltb→lt (0 * 1 * down e) (0 * up e * 1) (yes p)))
positive (fin false (suc m) e) p q = (m, e, refl)

pub read_at : (x : Float) → T (fits binary64 x) → (m : ℕ) (e : ℤ) → x ≡ fin false (suc m) e → Read (fin false (suc m) e) (to_bits binary64 x / 4503599627370496) (to_bits binary64 x % 4503599627370496)
read_at x t m e h = read (suc m) e (to_bits binary64 x) (of_bits-to_bits binary64 x t ∙ h)

pub low_root : (x : Float) → T (fits binary64 x) → lt nought x ≡ true → lt x top ≡ true → to_bits binary64 x / 4503599627370496 ≡ 0
    → (0 < to_bits binary64 x % 4503599627370496) × (sqrt_of x ≡ root_at (to_bits binary64 x % 4503599627370496) 0)
low_root x t p q z =
    let k = positive x p q in
    let t' = to_bits binary64 x % 4503599627370496 in
    let r : Read (fin false (suc k.0) k.1) 0 t' = subst (λ (f : ℕ). Read (fin false (suc k.0) k.1) f t') z (read_at x t k.0 k.1 k.2) in
    let y = root_by k.0 k.1 t' 0 r in
    (y.0, ap sqrt_of k.2 ∙ y.1)

split : (n : ℕ) → (n ≡ 0 → ⊥) → n ≡ suc (n - 1)
split n h = out (native.Mathlib.Nat.eq-zero-or-pos n)
  where
    out : (n ≡ 0) ⊎ (0 < n) → n ≡ suc (n - 1)
    out (inl e) = absurd (h e)
    out (inr e) = omega arith

pub high_root : (x : Float) → T (fits binary64 x) → lt nought x ≡ true → lt x top ≡ true → (to_bits binary64 x / 4503599627370496 ≡ 0 → ⊥)
    → (to_bits binary64 x / 4503599627370496 - 1 ≤ 2045) × (sqrt_of x ≡ root_at (to_bits binary64 x % 4503599627370496 + 4503599627370496) (to_bits binary64 x / 4503599627370496 - 1))
high_root x t p q z =
    let k = positive x p q in
    let t' = to_bits binary64 x % 4503599627370496 in
    let f = to_bits binary64 x / 4503599627370496 in
    let r : Read (fin false (suc k.0) k.1) (suc (f - 1)) t' = subst (λ (g : ℕ). Read (fin false (suc k.0) k.1) g t') (split f z) (read_at x t k.0 k.1 k.2) in
    let y = root_by k.0 k.1 (t' + 4503599627370496) (f - 1) r.0 in
    (r.1, ap sqrt_of k.2 ∙ y.1)

pub endless : (x : Float) → lt nought x ≡ true → lt x top ≡ false → x ≡ sqrt_of x
unfolding lt sqrt_of
endless nan p q = refl
endless (inf true) p q = absurd (false≢true p)
endless (inf false) p q = refl
endless (fin s m e) p q = absurd (true≢false q)

pub zero_root : (x : Float) → eq x nought ≡ true → x ≡ sqrt_of x
zero_root nan h = absurd (false≢true (unfold eq in h))
zero_root (inf s) h = absurd (false≢true (unfold eq in h))
zero_root (fin s zero e) h = unfold sqrt_of in refl
zero_root (fin s (suc m) e) h = absurd (some_suc m (zero_m s (suc m) e h))

no_root_of : (e : ℤ) (m : ℕ) → lt nought (fin false (suc m) e) ≡ false → ⊥
unfolding lt
no_root_of e m h = bad (down e) (suc m * up e) (mul-pos (zero-lt-suc m) (up_pos e)) (lib.Dec.nltb→le (0 * 1 * down e) (suc m * up e * 1) (nay h))
  where
    bad : (d a : ℕ) → 0 < a → a * 1 ≤ 0 * 1 * d → ⊥
    bad d a p h = omega (arith, zero-mul d)

pub no_root : (x : Float) → lt nought x ≡ false → eq x nought ≡ false → nan ≡ sqrt_of x
no_root nan p q = unfold sqrt_of in refl
no_root (inf true) p q = unfold sqrt_of in refl
no_root (inf false) p q = absurd (true≢false (unfold lt in p))
no_root (fin s zero e) p q = absurd (T_not (eq (fin s zero e) nought) (nay q) (zero_eq s e))
no_root (fin true (suc m) e) p q = unfold sqrt_of in refl
no_root (fin false (suc m) e) p q = absurd (no_root_of e m p)
