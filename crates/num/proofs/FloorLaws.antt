-- What `floor` returns at each of its ends is `floor_of x`. Assumes nothing.
use Rattle.std.proofs.Common.{◌≡◌, ℕ, zero, suc, ◌+◌, ◌-◌, ◌*◌, ◌/◌, ◌%◌, ◌^◌, ◌<◌, ◌≤◌, min, Bool, true, false, T, eqb, ℤ, pos, negsuc, sym, refl, ap, ◌∙◌, subst, true≢false, zero-le, le_trans, le_of_eq, lt_of_lt_of_le, le-add_right, lt_of_le_of_lt, add-zero, lt_irrefl, mul-le-mul_right, mod-lt, zero-lt-suc, div-lt_iff_lt-mul, add-mul, mul-pos, one-mul, div-add-mod', zero-mul, mul-one, mul_right_comm, div-one, arith, lit≤, eqb→eq, ltb→lt, lt→ltb, nltb→le, T_not, pow_pos}
use native.Mathlib.Nat.{pow-succ', eq_of_mul-eq-mul_right, div-eq_of_lt-le}
use mathlib.Core.Bool.{false≢true}
use lib.Ieee.{Float, nan, inf, fin, binary64, up, down, round, neg, lt, eq, of_int, to_unsigned, fits}
use lib.Ieee.Fits.{down_pos, up_pos, and_i, and_l, eq→eqb}
use lib.Arith.{lt_of_le-ne}
use lib.Ieee.Exact.{HasValue}
use lib.Ieee.Back.{round_whole}
use Rattle.num.specs.Num.{down_to, floor_of}
use Rattle.num.proofs.Whole.{yes, nay, neg_round, whole_same, whole_is, big_whole}

abbrev pub nought : Float
nought = fin false 0 (pos 0)

abbrev pub big : Float
big = fin false 1 (pos 52)

-- ---- what the tests of `x` say
-- above zero and below 2 ^ 52
pub pos_says : (m : ℕ) (e : ℤ) → lt (fin false m e) big ≡ true → m * up e < 2 ^ 52 * down e
unfolding lt
pos_says m e h = lt_of_le_of_lt (le_of_eq (sym (mul-one (m * up e)))) (lt_of_lt_of_le (ltb→lt (m * up e * 1) (1 * 2 ^ 52 * down e) (yes h)) (le_of_eq (ap (λ (x : ℕ). x * down e) (one-mul (2 ^ 52)))))

cap : (a : ℕ) → a < 2 ^ 52 → min a (2 ^ 64 - 1) ≡ a
cap a h = omega arith

pub cut : (m : ℕ) (e : ℤ) → m * up e < 2 ^ 52 * down e → to_unsigned 64 (fin false m e) ≡ m * up e / down e
unfolding to_unsigned
cut m e h = cap (m * up e / down e) ((div-lt_iff_lt-mul (down_pos e)).1 h)

pub floor_pos : (x : Float) → lt nought x ≡ true → lt x big ≡ true → of_int binary64 (pos (to_unsigned 64 x)) ≡ floor_of x
unfolding lt of_int floor_of
floor_pos nan p q = absurd (false≢true p)
floor_pos (inf true) p q = absurd (false≢true p)
floor_pos (inf false) p q = absurd (false≢true q)
floor_pos (fin true m e) p q = absurd (false≢true p)
floor_pos (fin false m e) p q = ap (λ (n : ℕ). round binary64 false n 1) (cut m e (pos_says m e q))

-- ---- from 2 ^ 52 on, and down from -(2 ^ 52): nothing to cut off
one_more : (a : ℕ) → (a + (1 - 1)) / 1 ≡ a
one_more a = omega arith

pub same_down : (s : Bool) (a : ℕ) → down_to s a 1 ≡ a
same_down false a = div-one a
same_down true a = one_more a

pub floor_whole : (s : Bool) (m k : ℕ) → T (fits binary64 (fin s m (pos k))) → fin s m (pos k) ≡ floor_of (fin s m (pos k))
unfolding floor_of
floor_whole s m k t = sym (ap (λ (n : ℕ). round binary64 s n 1) (same_down s (m * 2 ^ k)) ∙ whole_same s m k t)

pub floor_large : (s : Bool) (m : ℕ) (e : ℤ) → T (fits binary64 (fin s m e)) → 2 ^ 52 * down e ≤ m * up e → fin s m e ≡ floor_of (fin s m e)
floor_large s m e t h =
    let w = big_whole s m e t h in
    subst (λ (z : ℤ). fin s m z ≡ floor_of (fin s m z)) (sym w.1) (floor_whole s m w.0 (subst (λ (z : ℤ). T (fits binary64 (fin s m z))) w.1 t))

not_below : (m : ℕ) (e : ℤ) → lt (fin false m e) big ≡ false → 2 ^ 52 * down e ≤ m * up e
unfolding lt
not_below m e h = le_trans (le_of_eq (ap (λ (x : ℕ). x * down e) (sym (one-mul (2 ^ 52))))) (le_trans (nltb→le (m * up e * 1) (1 * 2 ^ 52 * down e) (nay h)) (le_of_eq (mul-one (m * up e))))

pub floor_up : (x : Float) → T (fits binary64 x) → lt nought x ≡ true → lt x big ≡ false → x ≡ floor_of x
unfolding lt
floor_up nan t p q = absurd (false≢true p)
floor_up (inf s) t p q = unfold floor_of in refl
floor_up (fin true m e) t p q = absurd (false≢true p)
floor_up (fin false m e) t p q = floor_large false m e t (not_below m e q)

pub below_zero : (m : ℕ) (e : ℤ) → lt (neg big) (fin true m e) ≡ lt (fin false m e) big
unfolding lt neg
below_zero m e = refl

none : (a d : ℕ) → a < 0 * 1 * d → ⊥
none a d h = omega (arith, zero-mul d)

pub not_negative : (m : ℕ) (e : ℤ) → lt (fin false m e) nought ≡ true → ⊥
unfolding lt
not_negative m e p = none (m * up e * 1) (down e) (ltb→lt (m * up e * 1) (0 * 1 * down e) (yes p))

pub floor_down : (x : Float) → T (fits binary64 x) → lt x nought ≡ true → lt (neg big) x ≡ false → x ≡ floor_of x
unfolding lt neg
floor_down nan t p q = absurd (false≢true p)
floor_down (inf s) t p q = unfold floor_of in refl
floor_down (fin false m e) t p q = absurd (not_negative m e p)
floor_down (fin true m e) t p q = floor_large true m e t (not_below m e q)

-- ---- neither above nor below zero: a zero or a NaN
two_is_not_one : (p : ℕ) → 0 < p → 2 * p ≡ 1 → ⊥
two_is_not_one p h e = omega arith

pub no_small_zero : (s : Bool) (k : ℕ) → T (fits binary64 (fin s zero (negsuc k))) → ⊥
unfolding fits
no_small_zero s k u = two_is_not_one (2 ^ k) (pow_pos k) (sym (pow-succ' 2 k) ∙ sym (one-mul (2 ^ suc k)) ∙ eqb→eq (1 * 2 ^ suc k) 1 u)

no_suc : (m : ℕ) → suc m ≡ 0 → ⊥
no_suc m e = omega arith

zero_is : (s : Bool) (m : ℕ) (e : ℤ) → T (fits binary64 (fin s m e)) → m ≡ 0 → fin s m e ≡ floor_of (fin s m e)
zero_is s m (pos k) t z = floor_whole s m k t
zero_is s zero (negsuc k) t z = absurd (no_small_zero s k t)
zero_is s (suc m) (negsuc k) t z = absurd (no_suc m z)

pub zero_of : (a u : ℕ) → 0 < u → a * u ≤ 0 → a ≡ 0
zero_of zero u p h = refl
zero_of (suc a) u p h = absurd (lt_irrefl 0 (lt_of_lt_of_le (mul-pos (zero-lt-suc a) p) h))

pub floor_zero : (x : Float) → T (fits binary64 x) → lt nought x ≡ false → lt x nought ≡ false → x ≡ floor_of x
unfolding lt
floor_zero nan t p q = unfold floor_of in refl
floor_zero (inf s) t p q = unfold floor_of in refl
floor_zero (fin false m e) t p q = zero_is false m e t (zero_of m (up e) (up_pos e) (low (m * up e) (down e) (nltb→le (0 * 1 * down e) (m * up e * 1) (nay p))))
  where
    low : (a d : ℕ) → a * 1 ≤ 0 * 1 * d → a ≤ 0
    low a d h = omega (arith, zero-mul d)
floor_zero (fin true m e) t p q = zero_is true m e t (zero_of m (up e) (up_pos e) (low (m * up e) (down e) (nltb→le 0 (m * up e * 1 + 0 * 1 * down e) (nay q))))
  where
    low : (a d : ℕ) → a * 1 + 0 * 1 * d ≤ 0 → a ≤ 0
    low a d h = omega (arith, zero-mul d)

-- ---- below zero and above -(2 ^ 52): t is the magnitude cut to a whole number
-- t and -x are equal exactly where nothing was cut off
cut_small : (m : ℕ) (e : ℤ) → m * up e < 2 ^ 52 * down e → HasValue (round binary64 false (m * up e / down e) 1) false (m * up e / down e) 1
cut_small m e h = round_whole binary64 false (m * up e / down e) (le (m * up e / down e) ((div-lt_iff_lt-mul (down_pos e)).1 h))
  where
    le : (a : ℕ) → a < 2 ^ 52 → a ≤ 2 ^ 53
    le a h = omega arith

-- of a float z that is n in size, and m * 2 ^ e
eq_says : (z : Float) (n m : ℕ) (e : ℤ) → HasValue z false n 1 → eq z (fin false m e) ≡ true → m * up e ≡ n * down e
unfolding eq
eq_says nan n m e v h = elim v [ ]
eq_says (inf _) n m e v h = elim v [ ]
eq_says (fin s a g) n m e v h =
    eq_of_mul-eq-mul_right (down g) (down_pos g) (m * up e) (n * down e)
    (sym (eqb→eq (a * up g * down e) (m * up e * down g) (and_l (eqb (a * up g * down e) (m * up e * down g)) _ (yes h)))
    ∙ ap (λ (x : ℕ). x * down e) (sym (mul-one (a * up g)) ∙ v.1) ∙ mul_right_comm n (down g) (down e))

eq_of : (z : Float) (n m : ℕ) (e : ℤ) → HasValue z false n 1 → m * up e ≡ n * down e → T (eq z (fin false m e))
unfolding eq
eq_of nan n m e v h = elim v [ ]
eq_of (inf _) n m e v h = elim v [ ]
eq_of (fin true a g) n m e v h = absurd (true≢false v.0)
eq_of (fin false a g) n m e v h =
    and_i (eqb (a * up g * down e) (m * up e * down g)) true
    (eq→eqb (ap (λ (x : ℕ). x * down e) (sym (mul-one (a * up g)) ∙ v.1) ∙ mul_right_comm n (down g) (down e) ∙ ap (λ (x : ℕ). x * down g) (sym h))) tt

up_exact : (n d : ℕ) → 0 < d → (n * d + (d - 1)) / d ≡ n
up_exact n d p = div-eq_of_lt-le d (le-add_right (n * d) (d - 1)) (lt_of_lt_of_le (step (n * d) d p) (le_of_eq (sym (add-mul n 1 d ∙ ap (λ (x : ℕ). n * d + x) (one-mul d)))))
  where
    step : (a d : ℕ) → 0 < d → a + (d - 1) < a + d
    step a d p = omega arith

up_more : (a d : ℕ) → 0 < d → (a ≡ a / d * d → ⊥) → (a + (d - 1)) / d ≡ a / d + 1
up_more a d p n =
    let q = a / d in
    let r = a % d in
    let s : q * d + r ≡ a = div-add-mod' a d in
    let l : r < d = mod-lt a p in
    let z : 0 < r = lt_of_le-ne zero-le (λ (w : 0 ≡ r). n (sym s ∙ ap (λ (x : ℕ). q * d + x) (sym w) ∙ add-zero (q * d))) in
    let o : (q + 1) * d ≡ q * d + d = add-mul q 1 d ∙ ap (λ (x : ℕ). q * d + x) (one-mul d) in
    let o2 : (q + 1 + 1) * d ≡ (q + 1) * d + d = add-mul (q + 1) 1 d ∙ ap (λ (x : ℕ). (q + 1) * d + x) (one-mul d) in
    div-eq_of_lt-le d (omega arith) (omega arith)

at_most : (a : ℕ) → a < 2 ^ 52 → a ≤ 2 ^ 53
at_most a h = omega arith

exact_is : (m : ℕ) (e : ℤ) (n : ℕ) → T (fits binary64 (fin true m e)) → n < 2 ^ 52 → m * up e ≡ n * down e → fin true m e ≡ floor_of (fin true m e)
unfolding floor_of
exact_is m e n t l w =
    sym (ap (λ (a : ℕ). round binary64 true ((a + (down e - 1)) / down e) 1) w
    ∙ ap (λ (a : ℕ). round binary64 true a 1) (up_exact n (down e) (down_pos e))
    ∙ whole_is true m e n t (round_whole binary64 true n (at_most n l)) w)

pub floor_neg_whole : (x : Float) → T (fits binary64 x) → lt x nought ≡ true → lt (neg big) x ≡ true → eq (of_int binary64 (pos (to_unsigned 64 (neg x)))) (neg x) ≡ true → x ≡ floor_of x
unfolding lt neg of_int
floor_neg_whole nan t p q h = absurd (false≢true p)
floor_neg_whole (inf s) t p q h = unfold floor_of in refl
floor_neg_whole (fin false m e) t p q h = absurd (not_negative m e p)
floor_neg_whole (fin true m e) t p q h =
    let b = pos_says m e q in
    let n = m * up e / down e in
    exact_is m e n t ((div-lt_iff_lt-mul (down_pos e)).1 b)
    (eq_says (round binary64 false n 1) n m e (cut_small m e b) (subst (λ (k : ℕ). eq (round binary64 false k 1) (fin false m e) ≡ true) (cut m e b) h))

pub floor_neg_part : (x : Float) → lt x nought ≡ true → lt (neg big) x ≡ true → eq (of_int binary64 (pos (to_unsigned 64 (neg x)))) (neg x) ≡ false
    → neg (of_int binary64 (pos (to_unsigned 64 (neg x) + 1))) ≡ floor_of x
unfolding lt neg of_int floor_of
floor_neg_part nan p q h = absurd (false≢true p)
floor_neg_part (inf true) p q h = absurd (false≢true q)
floor_neg_part (inf false) p q h = absurd (false≢true p)
floor_neg_part (fin false m e) p q h = absurd (not_negative m e p)
floor_neg_part (fin true m e) p q h =
    let b = pos_says m e q in
    let n = m * up e / down e in
    ap (λ (k : ℕ). neg (round binary64 false (k + 1) 1)) (cut m e b)
    ∙ neg_round binary64 false (n + 1) 1
    ∙ ap (λ (k : ℕ). round binary64 true k 1) (sym (up_more (m * up e) (down e) (down_pos e)
    (λ (w : m * up e ≡ n * down e). T_not (eq (round binary64 false n 1) (fin false m e)) (nay (subst (λ (k : ℕ). eq (round binary64 false k 1) (fin false m e) ≡ false) (cut m e b) h)) (eq_of (round binary64 false n 1) n m e (cut_small m e b) w))))

-- ---- what the calls ask
pub in_range : (x : Float) → lt nought x ≡ true → lt x big ≡ true → T (lt (fin true 1 (pos 0)) x) × T (lt x (fin false 1 (pos 64)))
unfolding lt
in_range nan p q = absurd (false≢true p)
in_range (inf true) p q = absurd (false≢true p)
in_range (inf false) p q = absurd (false≢true q)
in_range (fin true m e) p q = absurd (false≢true p)
in_range (fin false m e) p q = (lt→ltb 0 (1 * 1 * down e + m * up e * 1) (some (down e) (m * up e) (down_pos e)), lt→ltb (m * up e * 1) (1 * 2 ^ 64 * down e) (lt_of_lt_of_le (lt_of_le_of_lt (le_of_eq (mul-one (m * up e))) (pos_says m e q)) (mul-le-mul_right (down e) (lit≤ tt))))
  where
    some : (d a : ℕ) → 0 < d → 0 < 1 * 1 * d + a * 1
    some d a h = omega arith

pub in_range_neg : (x : Float) → lt x nought ≡ true → lt (neg big) x ≡ true → T (lt (fin true 1 (pos 0)) (neg x)) × T (lt (neg x) (fin false 1 (pos 64)))
unfolding lt neg
in_range_neg nan p q = absurd (false≢true p)
in_range_neg (inf true) p q = absurd (false≢true q)
in_range_neg (inf false) p q = absurd (false≢true p)
in_range_neg (fin false m e) p q = absurd (not_negative m e p)
in_range_neg (fin true m e) p q = (lt→ltb 0 (1 * 1 * down e + m * up e * 1) (some (down e) (m * up e) (down_pos e)), lt→ltb (m * up e * 1) (1 * 2 ^ 64 * down e) (lt_of_lt_of_le (lt_of_le_of_lt (le_of_eq (mul-one (m * up e))) (pos_says m e q)) (mul-le-mul_right (down e) (lit≤ tt))))
  where
    some : (d a : ℕ) → 0 < d → 0 < 1 * 1 * d + a * 1
    some d a h = omega arith

pub one_more_fits : (x : Float) → lt x nought ≡ true → lt (neg big) x ≡ true → to_unsigned 64 (neg x) + 1 < 2 ^ 64
unfolding lt neg
one_more_fits nan p q = absurd (false≢true p)
one_more_fits (inf true) p q = absurd (false≢true q)
one_more_fits (inf false) p q = absurd (false≢true p)
one_more_fits (fin false m e) p q = absurd (not_negative m e p)
one_more_fits (fin true m e) p q = subst (λ (k : ℕ). k + 1 < 2 ^ 64) (sym (cut m e (pos_says m e q))) (less (m * up e / down e) ((div-lt_iff_lt-mul (down_pos e)).1 (pos_says m e q)))
  where
    less : (a : ℕ) → a < 2 ^ 52 → a + 1 < 2 ^ 64
    less a h = omega arith
