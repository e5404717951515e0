-- The cells of a box without a floor: an edge y = (x - origin) * inv is compared as it stands and cut once. With n columns, or rows,
-- floor(y) < 0 exactly if y < 0; floor(y) > n - 1 exactly if y >= n; and floor(y), held to the grid and cast, is n - 1 where y >= n, and else y cut.
-- They hold for every float: a NaN passes neither test, and casts to 0. Assumes nothing.
use mathlib.Core.Path.{◌≡◌, refl, sym, ap, ◌∙◌, subst}
use Prim.Native.Nat.{ℕ, zero, suc, ◌+◌, ◌-◌, ◌*◌, ◌/◌, ◌^◌, ◌≤◌, ◌<◌, min, zero-le}
use native.Mathlib.Nat.{le_trans, le_of_eq, not-le_of_lt, zero-lt-suc, zero-mul, mul-one, one-mul, add-mul, mul_assoc, mul_comm, mul-pos, mul-le-mul_right, le-div_iff_mul-le}
use native.Mathlib.Omega.{arith}
use mathlib.Core.Bool.{Bool, true, false, not, cond, true≢false, false≢true}
use lib.IntN.{ℤ}
use lib.Dec.{T, ltb, ltb→lt, lt→ltb, nltb→le, le→leb, lit≤}
use lib.Ieee.{Float, nan, inf, fin, binary64, up, down, round, neg, lt, le, of_int, of_bits, to_unsigned, in_float}
use lib.Ieee.Fits.{down_pos}
use lib.Ieee.Exact.{HasValue}
use lib.Ieee.Order.{transfer, le_of_values, round_mono}
use lib.Ieee.Back.{round_whole, unsigned_back}
use lib.Ieee.Positive.{positive_of_value, values_of_le, above_of_le}
use Rattle.num.specs.Ops.{zero_f}
use Rattle.num.specs.Num.{down_to, floor_of, clamp_of}
use Rattle.num.proofs.Whole.{neg_round}
use Rattle.grid.specs.Range.{count_f, cell_index}

-- ---- tests
same : (a b : Bool) → (T a → T b) → (T b → T a) → a ≡ b
same true true f g = refl
same true false f g = absurd (f tt)
same false true f g = absurd (g tt)
same false false f g = refl

sure : (b : Bool) → (T (not b) → ⊥) → T b
sure true f = tt
sure false f = absurd (f tt)

one : 0 < 1
one = zero-lt-suc 0

above_zero : (n : ℕ) → 0 < n + 1
above_zero n = omega arith

more : (n k : ℕ) → n < k → n + 1 ≤ k
more n k h = omega arith

-- ---- z is at least n, which is above zero
abbrev Reach : ℕ → Float → Type 0
Reach n nan = ⊥
Reach n (inf s) = T (not s)
Reach n (fin true m e) = ⊥
Reach n (fin false m e) = n * down e ≤ m * up e * 1

reach_of : (n : ℕ) (b z : Float) → 0 < n → HasValue b false n 1 → T (le b z) → Reach n z
reach_of n b nan P v h = above_of_le b nan (positive_of_value b n 1 v P) h
reach_of n b (inf s) P v h = above_of_le b (inf s) (positive_of_value b n 1 v P) h
reach_of n b (fin true m e) P v h = above_of_le b (fin true m e) (positive_of_value b n 1 v P) h
reach_of n b (fin false m e) P v h =
    let p = positive_of_value b n 1 v P in
    values_of_le b (fin false m e) n 1 (m * up e) (down e) p (above_of_le b (fin false m e) p h) v (refl, refl) h

-- rounding keeps the order, so a k of any size does not fall below n
reach : (n k : ℕ) → 0 < n → n ≤ 2 ^ 53 → n ≤ k → Reach n (round binary64 false k 1)
reach n k P s h =
    reach_of n (round binary64 false n 1) (round binary64 false k 1) P (round_whole binary64 false n s) (round_mono binary64 n 1 k 1 one one (mul-le-mul_right 1 h))

-- ---- against the float a of a whole number n
cross : (a b n d e : ℕ) → 0 < d → 0 < e → a * 1 ≡ n * d → (n + 1) * e ≤ b * 1 → a * e < b * d
cross a b n d e D E h k =
    let p : 0 < d * e = mul-pos D E in
    let x : a * e ≡ n * (d * e) = ap (λ (z : ℕ). z * e) (sym (mul-one a) ∙ h) ∙ mul_assoc n d e in
    let y : (n + 1) * e * d ≤ b * 1 * d = mul-le-mul_right d k in
    let z : (n + 1) * e * d ≡ n * (d * e) + d * e = mul_assoc (n + 1) e d ∙ ap (λ (w : ℕ). (n + 1) * w) (mul_comm e d) ∙ add-mul n 1 (d * e) ∙ ap (λ (w : ℕ). n * (d * e) + w) (one-mul (d * e)) in
    let w : b * 1 * d ≡ b * d = ap (λ (v : ℕ). v * d) (mul-one b) in
    omega arith

lt_reach : (n : ℕ) (a z : Float) → HasValue a false n 1 → Reach (n + 1) z → T (lt a z)
unfolding lt
lt_reach n nan z v r = elim v [ ]
lt_reach n (inf _) z v r = elim v [ ]
lt_reach n (fin true p g) z v r = absurd (true≢false v.0)
lt_reach n (fin false p g) nan v r = absurd r
lt_reach n (fin false p g) (inf s) v r = r
lt_reach n (fin false p g) (fin true m e) v r = absurd r
lt_reach n (fin false p g) (fin false m e) v r = lt→ltb (p * up g * down e) (m * up e * down g) (cross (p * up g) (m * up e) n (down g) (down e) (down_pos g) (down_pos e) v.1 r)

not_lt : (n k : ℕ) (a z : Float) → HasValue a false n 1 → HasValue z false k 1 → k ≤ n → T (lt a z) → ⊥
unfolding lt
not_lt n k nan z v w h t = elim v [ ]
not_lt n k (inf _) z v w h t = elim v [ ]
not_lt n k (fin false p g) nan v w h t = elim w [ ]
not_lt n k (fin false p g) (inf _) v w h t = elim w [ ]
not_lt n k (fin true p g) z v w h t = true≢false v.0
not_lt n k (fin false p g) (fin true m e) v w h t = t
not_lt n k (fin false p g) (fin false m e) v w h t =
    not-le_of_lt (ltb→lt (p * up g * down e) (m * up e * down g) t) (transfer (m * up e) (p * up g) (down e) (down g) k n 1 1 one one w.1 v.1 (mul-le-mul_right 1 h))

lt_count : (n k : ℕ) (a : Float) → n < 2 ^ 53 → HasValue a false n 1 → lt a (round binary64 false k 1) ≡ ltb n k
lt_count n k a s v =
    same (lt a (round binary64 false k 1)) (ltb n k)
    (λ t. sure (ltb n k) (λ u. not_lt n k a (round binary64 false k 1) v (round_whole binary64 false k (at_most n k s (nltb→le n k u))) (nltb→le n k u) t))
    (λ t. lt_reach n a (round binary64 false k 1) v (reach (n + 1) k (above_zero n) (next n s) (more n k (ltb→lt n k t))))
  where
    at_most : (n k : ℕ) → n < 2 ^ 53 → k ≤ n → k ≤ 2 ^ 53
    at_most n k s h = omega arith

    next : (n : ℕ) → n < 2 ^ 53 → n + 1 ≤ 2 ^ 53
    next n s = omega arith

le_count : (n : ℕ) (b : Float) (m : ℕ) (e : ℤ) → HasValue b false (n + 1) 1 → le b (fin false m e) ≡ ltb n (m * up e / down e)
le_count n b m e v =
    same (le b (fin false m e)) (ltb n (m * up e / down e))
    (λ t. lt→ltb n (m * up e / down e) (less n _ ((le-div_iff_mul-le (down_pos e)).1 (le_trans (reach_of (n + 1) b (fin false m e) (above_zero n) v t) (le_of_eq (mul-one (m * up e)))))))
    (λ t. le_of_values b (fin false m e) (n + 1) 1 (m * up e) (down e) one (down_pos e) v (refl, refl)
    (le_trans ((le-div_iff_mul-le (down_pos e)).0 (more n _ (ltb→lt n (m * up e / down e) t))) (le_of_eq (sym (mul-one (m * up e))))))
  where
    less : (n k : ℕ) → n + 1 ≤ k → n < k
    less n k h = omega arith

-- ---- -c, rounded: never above a whole number, and below zero exactly if c is not 0
minus_at : (n : ℕ) (a z : Float) → HasValue a false n 1 → HasValue z true 0 1 → T (lt a z) → ⊥
unfolding lt
minus_at n nan z v w t = elim v [ ]
minus_at n (inf _) z v w t = elim v [ ]
minus_at n (fin false p g) nan v w t = elim w [ ]
minus_at n (fin false p g) (inf _) v w t = elim w [ ]
minus_at n (fin true p g) z v w t = true≢false v.0
minus_at n (fin false p g) (fin false m e) v w t = false≢true w.0
minus_at n (fin false p g) (fin true m e) v w t = t

minus_far : (n : ℕ) (a z : Float) → HasValue a false n 1 → Reach 1 z → T (lt a (neg z)) → ⊥
unfolding lt neg
minus_far n nan z v r t = elim v [ ]
minus_far n (inf _) z v r t = elim v [ ]
minus_far n (fin true p g) z v r t = true≢false v.0
minus_far n (fin false p g) nan v r t = r
minus_far n (fin false p g) (inf true) v r t = r
minus_far n (fin false p g) (inf false) v r t = t
minus_far n (fin false p g) (fin true m e) v r t = r
minus_far n (fin false p g) (fin false m e) v r t = t

far : (c : ℕ) → Reach 1 (round binary64 false (suc c) 1)
far c = reach 1 (suc c) one (lit≤ tt) (zero-lt-suc c)

not_minus : (n c : ℕ) (a : Float) → HasValue a false n 1 → T (lt a (round binary64 true c 1)) → ⊥
not_minus n zero a v t = minus_at n a (round binary64 true 0 1) v (round_whole binary64 true 0 zero-le) t
not_minus n (suc c) a v t = minus_far n a (round binary64 false (suc c) 1) v (far c) (subst (λ (z : Float). T (lt a z)) (sym (neg_round binary64 false (suc c) 1)) t)

none : (a d : ℕ) → a < 0 * 1 * d → ⊥
none a d h = omega (arith, zero-mul d)

zero_below : (z : Float) → HasValue z true 0 1 → T (lt z zero_f) → ⊥
unfolding lt of_bits
zero_below nan w t = elim w [ ]
zero_below (inf _) w t = elim w [ ]
zero_below (fin false m e) w t = false≢true w.0
zero_below (fin true m e) w t = no (m * up e) (down e) w.1 (ltb→lt 0 (m * up e * 1 + 0 * 1 * down e) t)
  where
    no : (a d : ℕ) → a * 1 ≡ 0 * d → 0 < a * 1 + 0 * 1 * d → ⊥
    no a d e h = omega (arith, zero-mul d)

far_below : (z : Float) → Reach 1 z → T (lt (neg z) zero_f)
unfolding lt neg of_bits
far_below nan r = r
far_below (inf true) r = absurd r
far_below (inf false) r = tt
far_below (fin true m e) r = absurd r
far_below (fin false m e) r = lt→ltb 0 (m * up e * 1 + 0 * 1 * down e) (some (m * up e * 1) (down e) (down_pos e) r)
  where
    some : (a d : ℕ) → 0 < d → 1 * d ≤ a → 0 < a + 0 * 1 * d
    some a d p h = omega arith

minus_below : (c : ℕ) → lt (round binary64 true c 1) zero_f ≡ ltb 0 c
minus_below zero = same (lt (round binary64 true 0 1) zero_f) false (zero_below (round binary64 true 0 1) (round_whole binary64 true 0 zero-le)) (λ t. absurd t)
minus_below (suc c) =
    same (lt (round binary64 true (suc c) 1) zero_f) (ltb 0 (suc c)) (λ t. lt→ltb 0 (suc c) (zero-lt-suc c))
    (λ t. subst (λ (z : Float). T (lt z zero_f)) (neg_round binary64 false (suc c) 1) (far_below (round binary64 false (suc c) 1) (far c)))

-- a number that is not negative stays so
value_not_below : (k : ℕ) (z : Float) → HasValue z false k 1 → T (lt z zero_f) → ⊥
unfolding lt of_bits
value_not_below k nan w t = elim w [ ]
value_not_below k (inf _) w t = elim w [ ]
value_not_below k (fin true m e) w t = true≢false w.0
value_not_below k (fin false m e) w t = none (m * up e * 1) (down e) (ltb→lt (m * up e * 1) (0 * 1 * down e) t)

reach_not_below : (z : Float) → Reach 1 z → T (lt z zero_f) → ⊥
unfolding lt of_bits
reach_not_below nan r t = r
reach_not_below (inf true) r t = r
reach_not_below (inf false) r t = t
reach_not_below (fin true m e) r t = r
reach_not_below (fin false m e) r t = none (m * up e * 1) (down e) (ltb→lt (m * up e * 1) (0 * 1 * down e) t)

plus_not_below : (k : ℕ) → T (lt (round binary64 false k 1) zero_f) → ⊥
plus_not_below zero t = value_not_below 0 (round binary64 false 0 1) (round_whole binary64 false 0 zero-le) t
plus_not_below (suc k) t = reach_not_below (round binary64 false (suc k) 1) (far k) t

fin_not_below : (m : ℕ) (e : ℤ) → T (lt (fin false m e) zero_f) → ⊥
unfolding lt of_bits
fin_not_below m e t = none (m * up e * 1) (down e) (ltb→lt (m * up e * 1) (0 * 1 * down e) t)

fin_below : (m : ℕ) (e : ℤ) → lt (fin true m e) zero_f ≡ ltb 0 (m * up e)
unfolding lt of_bits
fin_below m e = ap (λ (a : ℕ). ltb 0 a) (plain (m * up e) (down e))
  where
    plain : (a d : ℕ) → a * 1 + 0 * 1 * d ≡ a
    plain a d = omega (arith, zero-mul d)

-- a size goes up to a whole number that is 0 only where it is
up_zero : (a d : ℕ) → 0 < d → ltb 0 ((a + (d - 1)) / d) ≡ ltb 0 a
up_zero a d p =
    same (ltb 0 ((a + (d - 1)) / d)) (ltb 0 a)
    (λ t. lt→ltb 0 a (back a d p (le_trans (le_of_eq (sym (one-mul d))) ((le-div_iff_mul-le p).0 (ltb→lt 0 ((a + (d - 1)) / d) t)))))
    (λ t. lt→ltb 0 ((a + (d - 1)) / d) ((le-div_iff_mul-le p).1 (le_trans (le_of_eq (one-mul d)) (on a d p (ltb→lt 0 a t)))))
  where
    back : (a d : ℕ) → 0 < d → d ≤ a + (d - 1) → 0 < a
    back a d p h = omega arith

    on : (a d : ℕ) → 0 < d → 0 < a → d ≤ a + (d - 1)
    on a d p h = omega arith

-- FLOOR(y) < 0 exactly if y < 0
pub floor_below : (y : Float) → lt (floor_of y) zero_f ≡ lt y zero_f
unfolding floor_of
floor_below nan = refl
floor_below (inf s) = refl
floor_below (fin true m e) = minus_below (down_to true (m * up e) (down e)) ∙ up_zero (m * up e) (down e) (down_pos e) ∙ sym (fin_below m e)
floor_below (fin false m e) = same (lt (round binary64 false (m * up e / down e) 1) zero_f) (lt (fin false m e) zero_f) (λ t. absurd (plus_not_below (m * up e / down e) t)) (λ t. absurd (fin_not_below m e t))

-- ---- floor(y) > n exactly if y >= n + 1
fits53 : (n : ℕ) → n < 2 ^ 32 → n < 2 ^ 53
fits53 n h = omega arith

over_at : (n : ℕ) (a b y : Float) → n < 2 ^ 32 → HasValue a false n 1 → HasValue b false (n + 1) 1 → lt a (floor_of y) ≡ le b y
unfolding floor_of lt le
over_at n nan b nan h v w = elim v [ ]
over_at n (inf _) b nan h v w = elim v [ ]
over_at n nan b (inf _) h v w = elim v [ ]
over_at n (inf _) b (inf _) h v w = elim v [ ]
over_at n (fin s p g) nan (inf false) h v w = elim w [ ]
over_at n (fin s p g) (inf _) (inf false) h v w = elim w [ ]
over_at n (fin s p g) b nan h v w = same false (le b nan) (λ t. absurd t) (λ t. absurd (reach_of (n + 1) b nan (above_zero n) w t))
over_at n (fin s p g) b (inf true) h v w = same false (le b (inf true)) (λ t. absurd t) (λ t. absurd (reach_of (n + 1) b (inf true) (above_zero n) w t))
over_at n (fin s p g) (fin t q d) (inf false) h v w = refl
over_at n a b (fin true m e) h v w =
    same (lt a (round binary64 true (down_to true (m * up e) (down e)) 1)) (le b (fin true m e)) (λ t. absurd (not_minus n (down_to true (m * up e) (down e)) a v t)) (λ t. absurd (reach_of (n + 1) b (fin true m e) (above_zero n) w t))
over_at n a b (fin false m e) h v w = lt_count n (m * up e / down e) a (fits53 n h) v ∙ sym (le_count n b m e w)

value : (n : ℕ) → n ≤ 2 ^ 32 → HasValue (count_f n) false n 1
unfolding of_int
value n h = round_whole binary64 false n (small n h)
  where
    small : (n : ℕ) → n ≤ 2 ^ 32 → n ≤ 2 ^ 53
    small n h = omega arith

over : (n : ℕ) (y : Float) → n < 2 ^ 32 → lt (count_f n) (floor_of y) ≡ le (count_f (n + 1)) y
over n y h = over_at n (count_f n) (count_f (n + 1)) y h (value n (omega arith)) (value (n + 1) (omega arith))

-- ---- the index is n where y >= n + 1, and else y cut
whole_cast : (k : ℕ) → k < 2 ^ 32 → to_unsigned 64 (count_f k) ≡ k
unfolding in_float
whole_cast k h = (unsigned_back binary64 64 k (le→leb k (2 ^ 53) (omega arith)) (omega arith)).1

round_cast : (k : ℕ) → k < 2 ^ 32 → to_unsigned 64 (round binary64 false k 1) ≡ k
unfolding of_int
round_cast k h = whole_cast k h

fin_cast : (m : ℕ) (e : ℤ) → m * up e / down e < 2 ^ 32 → to_unsigned 64 (fin false m e) ≡ m * up e / down e
unfolding to_unsigned
fin_cast m e h = cap (m * up e / down e) h
  where
    cap : (k : ℕ) → k < 2 ^ 32 → min k (2 ^ 64 - 1) ≡ k
    cap k h = omega arith

zero_cast : to_unsigned 64 zero_f ≡ 0
unfolding of_bits to_unsigned
zero_cast = refl

minus_fin_cast : (m : ℕ) (e : ℤ) → to_unsigned 64 (fin true m e) ≡ 0
unfolding to_unsigned
minus_fin_cast m e = refl

minus_cast : (z : Float) → HasValue z true 0 1 → to_unsigned 64 z ≡ 0
unfolding to_unsigned
minus_cast nan w = elim w [ ]
minus_cast (inf _) w = elim w [ ]
minus_cast (fin false m e) w = absurd (false≢true w.0)
minus_cast (fin true m e) w = minus_fin_cast m e

-- below zero
below_cast : (n : ℕ) (b y : Float) → HasValue b false (n + 1) 1 → T (lt y zero_f) → (T (le b y) → ⊥) × (to_unsigned 64 y ≡ 0)
unfolding lt of_bits to_unsigned
below_cast n b nan w t = absurd t
below_cast n b (inf true) w t = (reach_of (n + 1) b (inf true) (above_zero n) w, refl)
below_cast n b (inf false) w t = absurd t
below_cast n b (fin true m e) w t = (reach_of (n + 1) b (fin true m e) (above_zero n) w, refl)
below_cast n b (fin false m e) w t = absurd (none (m * up e * 1) (down e) (ltb→lt (m * up e * 1) (0 * 1 * down e) t))

-- neither below zero nor from n + 1 on
between_cast : (n : ℕ) (b y : Float) → n < 2 ^ 32 → HasValue b false (n + 1) 1 → T (not (lt y zero_f)) → T (not (le b y)) → to_unsigned 64 (floor_of y) ≡ to_unsigned 64 y
unfolding floor_of
between_cast n b nan h w t u = refl
between_cast n b (inf s) h w t u = refl
between_cast n b (fin true m e) h w t u =
    let a = (m * up e + (down e - 1)) / down e in
    let z : a ≤ 0 = nltb→le 0 a (subst (λ (q : Bool). T (not q)) (fin_below m e ∙ sym (up_zero (m * up e) (down e) (down_pos e))) t) in
    ap (λ (c : ℕ). to_unsigned 64 (round binary64 true c 1)) (none_of a z) ∙ minus_cast (round binary64 true 0 1) (round_whole binary64 true 0 zero-le) ∙ sym (minus_fin_cast m e)
  where
    none_of : (a : ℕ) → a ≤ 0 → a ≡ 0
    none_of a h = omega arith
between_cast n b (fin false m e) h w t u =
    let k = m * up e / down e in
    let l : k ≤ n = nltb→le n k (subst (λ (q : Bool). T (not q)) (le_count n b m e w) u) in
    let s : k < 2 ^ 32 = omega arith in
    round_cast k s ∙ sym (fin_cast m e s)

index : (n : ℕ) (y : Float) → n < 2 ^ 32 → cell_index (floor_of y) n ≡ cond (le (count_f (n + 1)) y) n (to_unsigned 64 y)
unfolding cell_index clamp_of
index n y h =
    ap (λ (p : Bool). to_unsigned 64 (cond p zero_f (cond (lt (count_f n) (floor_of y)) (count_f n) (floor_of y)))) (floor_below y)
    ∙ ap (λ (q : Bool). to_unsigned 64 (cond (lt y zero_f) zero_f (cond q (count_f n) (floor_of y)))) (over n y h)
    ∙ go (lt y zero_f) (le (count_f (n + 1)) y) (below_cast n (count_f (n + 1)) y w) (between_cast n (count_f (n + 1)) y h w)
  where
    w : HasValue (count_f (n + 1)) false (n + 1) 1
    w = value (n + 1) (omega arith)

    go : (p q : Bool) → (T p → (T q → ⊥) × (to_unsigned 64 y ≡ 0)) → (T (not p) → T (not q) → to_unsigned 64 (floor_of y) ≡ to_unsigned 64 y)
        → to_unsigned 64 (cond p zero_f (cond q (count_f n) (floor_of y))) ≡ cond q n (to_unsigned 64 y)
    go true true f g = absurd ((f tt).0 tt)
    go true false f g = zero_cast ∙ sym (f tt).1
    go false true f g = whole_cast n h
    go false false f g = g tt tt

-- ---- THE SAME of n columns or rows, at least one: the last is n - 1
again : (n : ℕ) → 0 < n → n - 1 + 1 ≡ n
again n h = omega arith

pub floor_above : (n : ℕ) (y : Float) → 0 < n → n < 2 ^ 32 → lt (count_f (n - 1)) (floor_of y) ≡ le (count_f n) y
floor_above n y p h = over (n - 1) y (omega arith) ∙ ap (λ (k : ℕ). le (count_f k) y) (again n p)

index_is : (n : ℕ) (y : Float) → 0 < n → n < 2 ^ 32 → cell_index (floor_of y) (n - 1) ≡ cond (le (count_f n) y) (n - 1) (to_unsigned 64 y)
index_is n y p h = index (n - 1) y (omega arith) ∙ ap (λ (k : ℕ). cond (le (count_f k) y) (n - 1) (to_unsigned 64 y)) (again n p)

pub index_last : (n : ℕ) (y : Float) → 0 < n → n < 2 ^ 32 → le (count_f n) y ≡ true → n - 1 ≡ cell_index (floor_of y) (n - 1)
index_last n y p h t = sym (index_is n y p h ∙ ap (λ (q : Bool). cond q (n - 1) (to_unsigned 64 y)) t)

pub index_cut : (n : ℕ) (y : Float) → 0 < n → n < 2 ^ 32 → le (count_f n) y ≡ false → to_unsigned 64 y ≡ cell_index (floor_of y) (n - 1)
index_cut n y p h t = sym (index_is n y p h ∙ ap (λ (q : Bool). cond q (n - 1) (to_unsigned 64 y)) t)

pub last_same : (n : ℕ) → n - 1 + 1 - 1 ≡ n - 1
last_same n = omega arith
