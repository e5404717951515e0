-- What the comparing leaves return is what their definitions say. Assumes nothing.
use Rattle.std.proofs.Common.{◌≡◌, ℕ, zero, suc, ◌+◌, ◌-◌, ◌*◌, ◌/◌, ◌^◌, ◌<◌, ◌≤◌, min, Bool, true, false, cond, not, ◌&&◌, ◌||◌, T, eqb, ltb, ℤ, pos, negsuc, neg_ℤ, sym, refl, ap, ◌∙◌, subst, true≢false, le_trans, le_of_eq, one-mul, le-div_iff_mul-le, zero-mul, mul-one, arith, eqb→eq, ltb→lt, nltb→le, T_not}
use mathlib.Core.Bool.{beq, false≢true}
use lib.Dec.{eqb_refl, not_T}
use lib.Ieee.{Float, nan, inf, fin, binary64, up, down, neg, lt, eq, ne, div, is_nan, fits, below, level, to_unsigned, to_signed, le}
use lib.Ieee.Fits.{down_pos, up_pos, and_i, and_l, and_r, eq→eqb}
use lib.Ieee.Bits.{is_false}
use lib.Ieee.Back.{whole_unique}
use Rattle.num.specs.Num.{abs_of, ceil_of, floor_of, down_to}
use Rattle.num.specs.Order.{is_minus_zero, before}
use Rattle.num.specs.Order.{order_of}
use Rattle.std.specs.declared.cmp.Ordering.{Ordering}
use Rattle.std.specs.declared.cmp.Ordering.TheVariants.{Less, Equal, Greater}
use Rattle.num.proofs.Whole.{yes, nay, neg_round}
use Rattle.num.proofs.FloorLaws.{nought, not_negative, zero_of}

pub one : Float
one = fin false 1 (pos 0)

-- ---- is_nan
self_eq : (s : Bool) (a : ℕ) → not (level s a s a) ≡ false
self_eq true a = is_false (not (level true a true a)) (dbl (eqb a a) (eqb_refl a))
  where
    dbl : (b : Bool) → T b → T (not (not (b && true)))
    dbl true t = tt
    dbl false t = t
self_eq false a = is_false (not (level false a false a)) (dbl (eqb a a) (eqb_refl a))
  where
    dbl : (b : Bool) → T b → T (not (not (b && true)))
    dbl true t = tt
    dbl false t = t

pub ne_is : (x : Float) → ne x x ≡ is_nan x
unfolding ne is_nan
ne_is nan = refl
ne_is (inf true) = refl
ne_is (inf false) = refl
ne_is (fin s m e) = self_eq s (m * up e * down e)

-- ---- a zero
at_zero : (a d : ℕ) → a * 1 ≡ 0 * 1 * d → a ≤ 0
at_zero a d h = omega (arith, zero-mul d)

pub zero_m : (s : Bool) (m : ℕ) (e : ℤ) → eq (fin s m e) nought ≡ true → m ≡ 0
unfolding eq
zero_m s m e h = zero_of m (up e) (up_pos e) (at_zero (m * up e) (down e) (eqb→eq (m * up e * 1) (0 * 1 * down e) (and_l (eqb (m * up e * 1) (0 * 1 * down e)) _ (yes h))))

pub zero_eq : (s : Bool) (e : ℤ) → T (eq (fin s zero e) nought)
unfolding eq
zero_eq s e = and_i (eqb (0 * up e * 1) (0 * 1 * down e)) (beq s false || eqb (0 * up e * 1) 0) (eq→eqb (z (up e) (down e))) (or_r (beq s false) (eqb (0 * up e * 1) 0) (eq→eqb (w (up e))))
  where
    z : (u d : ℕ) → 0 * u * 1 ≡ 0 * 1 * d
    z u d = omega (arith, zero-mul d, zero-mul u)

    w : (u : ℕ) → 0 * u * 1 ≡ 0
    w u = omega (arith, zero-mul u)

    or_r : (a b : Bool) → T b → T (a || b)
    or_r true b t = tt
    or_r false b t = t

-- ---- is_minus_zero
pub some_suc : (m : ℕ) → suc m ≡ 0 → ⊥
some_suc m e = omega arith

pub minus_zero_yes : (x : Float) → eq x nought ≡ true → lt (div binary64 (fin false 1 (pos 0)) x) nought ≡ is_minus_zero x
minus_zero_yes nan h = absurd (false≢true (unfold eq in h))
minus_zero_yes (inf s) h = absurd (false≢true (unfold eq in h))
minus_zero_yes (fin true zero e) h = unfold div lt is_minus_zero in refl
minus_zero_yes (fin false zero e) h = unfold div lt is_minus_zero in refl
minus_zero_yes (fin s (suc m) e) h = absurd (some_suc m (zero_m s (suc m) e h))

pub minus_zero_no : (x : Float) → eq x nought ≡ false → false ≡ is_minus_zero x
unfolding is_minus_zero
minus_zero_no nan h = refl
minus_zero_no (inf s) h = refl
minus_zero_no (fin s zero e) h = absurd (T_not (eq (fin s zero e) nought) (nay h) (zero_eq s e))
minus_zero_no (fin true (suc m) e) h = sym (is_false (eqb (suc m) 0) (not_T (eqb (suc m) 0) (λ t. some_suc m (eqb→eq (suc m) 0 t))))
minus_zero_no (fin false (suc m) e) h = refl

-- ---- abs
fits_sign : (s t : Bool) (m : ℕ) (e : ℤ) → T (fits binary64 (fin s m e)) → T (fits binary64 (fin t m e))
unfolding fits
fits_sign s t zero e h = h
fits_sign s t (suc m) e h = h

zero_fits : T (fits binary64 nought)
unfolding fits
zero_fits = tt

pub abs_below : (x : Float) → lt x nought ≡ true → neg x ≡ abs_of x
unfolding abs_of neg
abs_below nan h = refl
abs_below (inf true) h = refl
abs_below (inf false) h = absurd (false≢true (unfold lt in h))
abs_below (fin true m e) h = refl
abs_below (fin false m e) h = absurd (not_negative m e h)

pub abs_zero : (x : Float) → T (fits binary64 x) → eq x nought ≡ true → nought ≡ abs_of x
unfolding abs_of
abs_zero nan t h = absurd (false≢true (unfold eq in h))
abs_zero (inf s) t h = absurd (false≢true (unfold eq in h))
abs_zero (fin s m e) t h =
    whole_unique binary64 nought (fin false m e) false 0 zero_fits (fits_sign s false m e t) (refl, refl)
    (refl, ap (λ (n : ℕ). n * up e * 1) (zero_m s m e h) ∙ z (up e) (down e))
  where
    z : (u d : ℕ) → 0 * u * 1 ≡ 0 * d
    z u d = omega (arith, zero-mul d, zero-mul u)

under_zero : (a d : ℕ) → a * 1 + 0 * 1 * d ≤ 0 → a ≤ 0
under_zero a d h = omega (arith, zero-mul d)

negative_zero : (m : ℕ) (e : ℤ) → lt (fin true m e) nought ≡ false → m ≡ 0
unfolding lt
negative_zero m e h = zero_of m (up e) (up_pos e) (under_zero (m * up e) (down e) (nltb→le 0 (m * up e * 1 + 0 * 1 * down e) (nay h)))

no_clash : (m : ℕ) (e : ℤ) → m ≡ 0 → eq (fin true m e) nought ≡ false → ⊥
no_clash zero e z k = T_not (eq (fin true zero e) nought) (nay k) (zero_eq true e)
no_clash (suc m) e z k = some_suc m z

pub abs_else : (x : Float) → lt x nought ≡ false → eq x nought ≡ false → x ≡ abs_of x
unfolding abs_of
abs_else nan h k = refl
abs_else (inf true) h k = absurd (true≢false (unfold lt in h))
abs_else (inf false) h k = refl
abs_else (fin false m e) h k = refl
abs_else (fin true m e) h k = absurd (no_clash m e (negative_zero m e h) k)

-- ---- ceil
pub ceil_is : (x : Float) → neg (floor_of (neg x)) ≡ ceil_of x
unfolding floor_of ceil_of neg
ceil_is nan = refl
ceil_is (inf true) = refl
ceil_is (inf false) = refl
ceil_is (fin true m e) = neg_round binary64 false (down_to false (m * up e) (down e)) 1
ceil_is (fin false m e) = neg_round binary64 true (down_to true (m * up e) (down e)) 1

-- ---- total_cmp
unfoldable pub pick : Bool → Bool → Bool → Bool → Bool → Bool → Bool → Ordering
pick l l' q zx zy nx ny = cond l Less (cond l' Greater (cond q (cond zx (cond zy Equal Less) (cond zy Greater Equal)) (cond nx (cond ny Equal Greater) Less)))

abbrev spec : Bool → Bool → Bool → Bool → Bool → Bool → Bool → Bool → Ordering
spec l l' q q' zx zy nx ny = cond (l || (q && (zx && not zy)) || (not nx && ny)) Less (cond (l' || (q' && (zy && not zx)) || (not ny && nx)) Greater Equal)

finite_pick : (l l' q q' zx zy : Bool) → q ≡ q' → (T l' → T (not q)) → (T (not l) → T (not l') → T q) → pick l l' q zx zy false false ≡ spec l l' q q' zx zy false false
unfolding pick
finite_pick true l' q q' zx zy e a b = refl
finite_pick false true true q' zx zy e a b = absurd (a tt)
finite_pick false true false q' zx zy e a b = refl
finite_pick false false false q' zx zy e a b = absurd (b tt tt)
finite_pick false false true true true true e a b = refl
finite_pick false false true true true false e a b = refl
finite_pick false false true true false true e a b = refl
finite_pick false false true true false false e a b = refl
finite_pick false false true false zx zy e a b = absurd (true≢false e)

-- two numbers: one test passes
same_test : (a b : Bool) → (T a → T b) → (T b → T a) → a ≡ b
same_test true true p q = refl
same_test true false p q = absurd (p tt)
same_test false true p q = absurd (q tt)
same_test false false p q = refl

level_turn : (s : Bool) (a : ℕ) (t : Bool) (b : ℕ) → T (level s a t b) → T (level t b s a)
level_turn s a t b h = and_i (eqb b a) (beq t s || eqb b 0) (eq→eqb (sym e)) (go s t (and_r (eqb a b) (beq s t || eqb a 0) h))
  where
    e : a ≡ b
    e = eqb→eq a b (and_l (eqb a b) (beq s t || eqb a 0) h)

    go : (s t : Bool) → T (beq s t || eqb a 0) → T (beq t s || eqb b 0)
    go true true u = tt
    go false false u = tt
    go true false u = subst (λ (n : ℕ). T (eqb n 0)) e u
    go false true u = subst (λ (n : ℕ). T (eqb n 0)) e u

more_than : (a b : ℕ) → a < b → a ≡ b → ⊥
more_than a b h e = omega arith

no_sum : (a b : ℕ) → 0 < b + a → a ≡ b → a ≡ 0 → ⊥
no_sum a b h e z = omega arith

not_both : (s : Bool) (a : ℕ) (t : Bool) (b : ℕ) → T (below t b s a) → T (level s a t b) → ⊥
not_both false a false b h q = more_than b a (ltb→lt b a h) (sym (eqb→eq a b (and_l (eqb a b) true q)))
not_both true a true b h q = more_than a b (ltb→lt a b h) (eqb→eq a b (and_l (eqb a b) true q))
not_both true a false b h q = h
not_both false a true b h q = no_sum a b (ltb→lt 0 (b + a) h) (eqb→eq a b (and_l (eqb a b) (eqb a 0) q)) (eqb→eq a 0 (and_r (eqb a b) (eqb a 0) q))

between : (a b : ℕ) → a ≤ b → b ≤ a → a ≡ b
between a b h k = omega arith

no_size : (a b : ℕ) → a + b ≤ 0 → (a ≡ b) × (a ≡ 0)
no_size a b h = (omega arith, omega arith)

one_passes : (s : Bool) (a : ℕ) (t : Bool) (b : ℕ) → T (not (below s a t b)) → T (not (below t b s a)) → T (level s a t b)
one_passes false a false b h k = and_i (eqb a b) true (eq→eqb (between a b (nltb→le b a k) (nltb→le a b h))) tt
one_passes true a true b h k = and_i (eqb a b) true (eq→eqb (between a b (nltb→le b a h) (nltb→le a b k))) tt
one_passes true a false b h k = let z = no_size a b (nltb→le 0 (a + b) h) in and_i (eqb a b) (eqb a 0) (eq→eqb z.0) (eq→eqb z.1)
one_passes false a true b h k = let z = no_size b a (nltb→le 0 (b + a) k) in and_i (eqb a b) (eqb a 0) (eq→eqb (sym z.0)) (eq→eqb (sym z.0 ∙ z.1))

-- `total_cmp`, by its tests
pub picked : (x y : Float) → pick (lt x y) (lt y x) (eq x y) (is_minus_zero x) (is_minus_zero y) (is_nan x) (is_nan y) ≡ order_of x y
unfolding lt eq is_nan order_of before pick
picked nan nan = refl
picked nan (inf true) = refl
picked nan (inf false) = refl
picked nan (fin t n d) = refl
picked (inf true) nan = refl
picked (inf false) nan = refl
picked (inf true) (inf true) = unfold is_minus_zero in refl
picked (inf true) (inf false) = refl
picked (inf false) (inf true) = refl
picked (inf false) (inf false) = unfold is_minus_zero in refl
picked (inf true) (fin t n d) = refl
picked (inf false) (fin t n d) = refl
picked (fin s m e) nan = refl
picked (fin s m e) (inf true) = refl
picked (fin s m e) (inf false) = refl
picked (fin s m e) (fin t n d) =
    let a = m * up e * down d in
    let b = n * up d * down e in
    finite_pick (below s a t b) (below t b s a) (level s a t b) (level t b s a) (is_minus_zero (fin s m e)) (is_minus_zero (fin t n d))
    (same_test (level s a t b) (level t b s a) (level_turn s a t b) (level_turn t b s a))
    (λ h. not_T (level s a t b) (not_both s a t b h))
    (one_passes s a t b)

-- ---- `as u64`
pub high_u64 : (x : Float) → lt (fin true 1 (pos 0)) x ≡ true → lt x (fin false 1 (pos 64)) ≡ false → 18446744073709551615 ≡ to_unsigned 64 x
unfolding lt to_unsigned
high_u64 nan p q = absurd (false≢true p)
high_u64 (inf true) p q = absurd (false≢true p)
high_u64 (inf false) p q = refl
high_u64 (fin true m e) p q = absurd (none (m * up e) (down e) (down_pos e) (nltb→le 0 (m * up e * 1 + 1 * 2 ^ 64 * down e) (nay q)))
  where
    none : (a d : ℕ) → 0 < d → a * 1 + 1 * 2 ^ 64 * d ≤ 0 → ⊥
    none a d h k = omega arith
high_u64 (fin false m e) p q =
    sym (top (m * up e / down e) ((le-div_iff_mul-le (down_pos e)).1 (le_trans (le_of_eq (ap (λ (x : ℕ). x * down e) (sym (one-mul (2 ^ 64))))) (le_trans (nltb→le (m * up e * 1) (1 * 2 ^ 64 * down e) (nay q)) (le_of_eq (mul-one (m * up e)))))))
  where
    top : (a : ℕ) → 2 ^ 64 ≤ a → min a (2 ^ 64 - 1) ≡ 18446744073709551615
    top a h = omega arith

pub low_u64 : (x : Float) → lt (fin true 1 (pos 0)) x ≡ false → 0 ≡ to_unsigned 64 x
unfolding lt to_unsigned
low_u64 nan p = refl
low_u64 (inf true) p = refl
low_u64 (inf false) p = absurd (true≢false p)
low_u64 (fin true m e) p = refl
low_u64 (fin false m e) p = absurd (none (m * up e) (down e) (down_pos e) (nltb→le 0 (1 * 1 * down e + m * up e * 1) (nay p)))
  where
    none : (a d : ℕ) → 0 < d → 1 * 1 * d + a * 1 ≤ 0 → ⊥
    none a d h k = omega arith

-- ---- `as i64`
or_no : (a b : Bool) → (a || b) ≡ false → a ≡ false
or_no true b h = h
or_no false b h = refl

top_i64 : (a : ℕ) → 2 ^ 63 ≤ a → min a (2 ^ 63 - 1) ≡ 9223372036854775807
top_i64 a h = omega arith

bottom_i64 : (a : ℕ) → 2 ^ 63 ≤ a → min a (2 ^ 63) ≡ 9223372036854775808
bottom_i64 a h = omega arith

at_least : (m : ℕ) (e : ℤ) → ltb (m * up e * 1) (1 * 2 ^ 63 * down e) ≡ false → 2 ^ 63 ≤ m * up e / down e
at_least m e q = (le-div_iff_mul-le (down_pos e)).1 (le_trans (le_of_eq (ap (λ (x : ℕ). x * down e) (sym (one-mul (2 ^ 63))))) (le_trans (nltb→le (m * up e * 1) (1 * 2 ^ 63 * down e) (nay q)) (le_of_eq (mul-one (m * up e)))))

no_room : (a d : ℕ) → 0 < d → a * 1 + 1 * 2 ^ 63 * d ≤ 0 → ⊥
no_room a d h k = omega arith

no_room' : (a d : ℕ) → 0 < d → 1 * 2 ^ 63 * d + a * 1 ≤ 0 → ⊥
no_room' a d h k = omega arith

pub high_i64 : (x : Float) → le (fin true 1 (pos 63)) x ≡ true → lt x (fin false 1 (pos 63)) ≡ false → pos 9223372036854775807 ≡ to_signed 63 x
unfolding le lt to_signed
high_i64 nan p q = absurd (false≢true p)
high_i64 (inf true) p q = absurd (false≢true p)
high_i64 (inf false) p q = refl
high_i64 (fin true m e) p q = absurd (no_room (m * up e) (down e) (down_pos e) (nltb→le 0 (m * up e * 1 + 1 * 2 ^ 63 * down e) (nay q)))
high_i64 (fin false m e) p q = ap pos (sym (top_i64 (m * up e / down e) (at_least m e q)))

pub nan_i64 : (x : Float) → is_nan x ≡ true → pos 0 ≡ to_signed 63 x
unfolding is_nan to_signed
nan_i64 nan h = refl
nan_i64 (inf s) h = absurd (false≢true h)
nan_i64 (fin s m e) h = absurd (false≢true h)

pub low_i64 : (x : Float) → le (fin true 1 (pos 63)) x ≡ false → is_nan x ≡ false → negsuc 9223372036854775807 ≡ to_signed 63 x
unfolding le is_nan to_signed
low_i64 nan p q = absurd (true≢false q)
low_i64 (inf true) p q = refl
low_i64 (inf false) p q = absurd (true≢false p)
low_i64 (fin true m e) p q = ap (λ (n : ℕ). neg_ℤ (pos n)) (sym (bottom_i64 (m * up e / down e) (at_least m e (or_no (ltb (m * up e * 1) (1 * 2 ^ 63 * down e)) _ p))))
low_i64 (fin false m e) p q = absurd (no_room' (m * up e) (down e) (down_pos e) (nltb→le 0 (1 * 2 ^ 63 * down e + m * up e * 1) (nay (or_no (ltb 0 (1 * 2 ^ 63 * down e + m * up e * 1)) _ p))))
