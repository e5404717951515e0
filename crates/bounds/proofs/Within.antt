-- Laws of float bounds at binary64: each operation keeps its result within the bound that the exact one has, since the bound is a whole number that the format holds (`Held`) and rounding keeps the order.
-- Assumes nothing.
use mathlib.Core.Path.{◌≡◌, refl, sym, ap, ◌∙◌, subst}
use mathlib.Core.List.{List, [], ◌∷◌, foldl}
use lib.ListN.{length}
use Prim.Native.Nat.{ℕ, zero, suc, ◌+◌, ◌-◌, ◌*◌, ◌/◌, ◌^◌, ◌≤◌, ◌<◌, min, zero-le}
use native.Mathlib.Nat.{le_trans, le_of_eq, lt_of_lt_of_le, not-le_of_lt, zero-lt-suc, add-mul, add-le-add, zero-mul, mul-one, one-mul, mul_comm, mul_assoc, mul_right_comm, mul-mul-mul_comm, mul-pos, mul-le-mul, mul-le-mul_left, mul-le-mul_right, div-le_of_le-mul, div-lt_iff_lt-mul, pow-succ', suc-mul, suc-add, add-suc, add-zero}
use native.Mathlib.Omega.{arith}
use mathlib.Core.Bool.{Bool, true, false, not, ◌&&◌, beq, cond, true≢false}
use lib.IntN.{pos}
use lib.Dec.{T, ltb, leb, eqb, leb→le, eqb→eq, not_T}
use lib.Pow.{pow_pos}
use lib.Ieee.{Float, nan, inf, fin, Format, binary64, prec, emax, low, up, down, unlike, odd, units, round, neg, sum, add, sub, mul, div, lt, le, is_nan, of_int, to_unsigned}
use lib.Ieee.Fits.{round_is, down_pos}
use lib.Ieee.Exact.{HasValue}
use lib.Ieee.Order.{round_mono}
use lib.Ieee.Back.{round_whole}
use Rattle.num.specs.Num.{down_to, floor_of, ceil_of, min_of, max_of}
use Rattle.num.specs.Root.{root_down, sqrt_of}
use Rattle.num.proofs.Whole.{neg_round}
use Rattle.num.proofs.RootLaws.{root_is, le_of_squares}
use Rattle.lists.specs.Members.{All}
use Rattle.bounds.specs.Within.{Within, AtLeast, WithinOrNan}
use Rattle.num.proofs.OpOrder.{div_is}
use Rattle.num.proofs.FloatOrder.{value_le, le_value, not_lt, trans}

-- ---- larger bounds, and what a bound shuts out
pub wider : (a b : ℕ) (x : Float) → a ≤ b → Within a x → Within b x
wider a b nan l h = h
wider a b (inf s) l h = h
wider a b (fin s m e) l h = le_trans h (mul-le-mul_right (down e) l)

pub not_nan : (b : ℕ) (x : Float) → Within b x → T (not (is_nan x))
unfolding is_nan
not_nan b nan h = h
not_nan b (inf s) h = absurd h
not_nan b (fin s m e) h = tt

pub below_infinity : (b : ℕ) (x : Float) → Within b x → T (lt x (inf false))
unfolding lt
below_infinity b nan h = h
below_infinity b (inf s) h = absurd h
below_infinity b (fin s m e) h = tt

pub neg_within : (b : ℕ) (x : Float) → Within b x → Within b (neg x)
unfolding neg
neg_within b nan h = h
neg_within b (inf s) h = h
neg_within b (fin s m e) h = h

pub cond_within : (q : Bool) (b : ℕ) (x y : Float) → Within b x → Within b y → Within b (cond q x y)
cond_within true b x y h k = h
cond_within false b x y h k = k

pub or_nan : (b : ℕ) (x : Float) → Within b x → WithinOrNan b x
or_nan b nan h = tt
or_nan b (inf s) h = h
or_nan b (fin s m e) h = h

pub or_nan_wider : (a b : ℕ) (x : Float) → a ≤ b → WithinOrNan a x → WithinOrNan b x
or_nan_wider a b nan l h = tt
or_nan_wider a b (inf s) l h = h
or_nan_wider a b (fin s m e) l h = le_trans h (mul-le-mul_right (down e) l)

-- ---- bounds and the order: y is the number n, lo is -b and hi is b
pub least_of_le : (n : ℕ) (x y : Float) → HasValue y false n 1 → T (le y x) → AtLeast n x
unfolding le
least_of_le n nan nan v h = elim v [ ]
least_of_le n nan (inf _) v h = elim v [ ]
least_of_le n (inf false) nan v h = elim v [ ]
least_of_le n (inf false) (inf _) v h = elim v [ ]
least_of_le n (inf true) nan v h = elim v [ ]
least_of_le n (inf true) (inf _) v h = elim v [ ]
least_of_le n (fin false m e) nan v h = elim v [ ]
least_of_le n (fin false m e) (inf _) v h = elim v [ ]
least_of_le n (fin true m e) nan v h = elim v [ ]
least_of_le n (fin true m e) (inf _) v h = elim v [ ]
least_of_le n nan (fin t k d) v h = h
least_of_le n (inf true) (fin t k d) v h = h
least_of_le n (inf false) (fin t k d) v h = tt
least_of_le n (fin true m e) (fin t k d) v h = subst (λ (z : ℕ). n * down e + z ≤ 0) (mul-one (m * up e)) (value_le (fin t k d) (fin true m e) false n 1 true (m * up e) (down e) v (refl, refl) h)
least_of_le n (fin false m e) (fin t k d) v h = le_trans (value_le (fin t k d) (fin false m e) false n 1 false (m * up e) (down e) v (refl, refl) h) (le_of_eq (mul-one (m * up e)))

pub one_pos : 0 < 1
one_pos = zero-lt-suc 0

pub le_of_least : (n : ℕ) (x y : Float) → HasValue y false n 1 → AtLeast n x → T (le y x)
le_of_least n nan nan v h = elim v [ ]
le_of_least n nan (inf _) v h = elim v [ ]
le_of_least n (inf false) nan v h = elim v [ ]
le_of_least n (inf false) (inf _) v h = elim v [ ]
le_of_least n (inf true) nan v h = elim v [ ]
le_of_least n (inf true) (inf _) v h = elim v [ ]
le_of_least n (fin false m e) nan v h = elim v [ ]
le_of_least n (fin false m e) (inf _) v h = elim v [ ]
le_of_least n (fin true m e) nan v h = elim v [ ]
le_of_least n (fin true m e) (inf _) v h = elim v [ ]
le_of_least n nan (fin t k d) v h = absurd h
le_of_least n (inf true) (fin t k d) v h = absurd h
le_of_least n (inf false) (fin t k d) v h = unfold le in tt
le_of_least n (fin true m e) (fin t k d) v h = le_value (fin t k d) (fin true m e) false n 1 true (m * up e) (down e) one_pos (down_pos e) v (refl, refl) (subst (λ (z : ℕ). n * down e + z ≤ 0) (sym (mul-one (m * up e))) h)
le_of_least n (fin false m e) (fin t k d) v h = le_value (fin t k d) (fin false m e) false n 1 false (m * up e) (down e) one_pos (down_pos e) v (refl, refl) (le_trans h (le_of_eq (sym (mul-one (m * up e)))))

pub least_up : (n : ℕ) (x y : Float) → AtLeast n x → T (le x y) → AtLeast n y
least_up n x y h l = least_of_le n y (fin false n (pos 0)) (refl, mul-one (n * 1)) (trans (fin false n (pos 0)) x y (le_of_least n x (fin false n (pos 0)) (refl, mul-one (n * 1)) h) l)

pub least_not_nan : (n : ℕ) (x : Float) → AtLeast n x → T (not (is_nan x))
unfolding is_nan
least_not_nan n nan h = h
least_not_nan n (inf s) h = tt
least_not_nan n (fin s m e) h = tt

pub value_within : (n : ℕ) (y : Float) → HasValue y false n 1 → Within n y
value_within n nan v = elim v [ ]
value_within n (inf _) v = elim v [ ]
value_within n (fin s k d) v = le_trans (le_of_eq (sym (mul-one (k * up d)))) (le_of_eq v.1)

pub value_least : (n : ℕ) (y : Float) → HasValue y false n 1 → AtLeast n y
value_least n nan v = elim v [ ]
value_least n (inf _) v = elim v [ ]
value_least n (fin true k d) v = absurd (true≢false v.0)
value_least n (fin false k d) v = le_trans (le_of_eq (sym v.1)) (le_of_eq (mul-one (k * up d)))

-- THE TWO TESTS, both ways: -b ≤ x and x ≤ b pass exactly where x is finite and from -b to b
pub tests_within : (b : ℕ) (lo hi x : Float) → HasValue lo true b 1 → HasValue hi false b 1 → T (le lo x) → T (le x hi) → Within b x
unfolding le
tests_within b nan hi _ v w h i = elim v [ ]
tests_within b (inf _) hi _ v w h i = elim v [ ]
tests_within b (fin s k d) nan _ v w h i = elim w [ ]
tests_within b (fin s k d) (inf _) _ v w h i = elim w [ ]
tests_within b (fin s k d) (fin t l g) nan v w h i = absurd h
tests_within b (fin s k d) (fin t l g) (inf true) v w h i = absurd h
tests_within b (fin s k d) (fin t l g) (inf false) v w h i = absurd i
tests_within b (fin s k d) (fin t l g) (fin true m e) v w h i = le_trans (le_of_eq (sym (mul-one (m * up e)))) (value_le (fin s k d) (fin true m e) true b 1 true (m * up e) (down e) v (refl, refl) h)
tests_within b (fin s k d) (fin t l g) (fin false m e) v w h i = le_trans (le_of_eq (sym (mul-one (m * up e)))) (value_le (fin false m e) (fin t l g) false (m * up e) (down e) false b 1 (refl, refl) w i)

pub within_tests : (b : ℕ) (lo hi x : Float) → HasValue lo true b 1 → HasValue hi false b 1 → Within b x → T (le lo x) × T (le x hi)
within_tests b lo hi nan v w h = absurd h
within_tests b lo hi (inf s) v w h = absurd h
within_tests b lo hi (fin true m e) v w h = (
  le_value lo (fin true m e) true b 1 true (m * up e) (down e) one_pos (down_pos e) v (refl, refl) (le_trans (le_of_eq (mul-one (m * up e))) h),
  le_value (fin true m e) hi true (m * up e) (down e) false b 1 (down_pos e) one_pos (refl, refl) w zero-le,
)
within_tests b lo hi (fin false m e) v w h = (
  le_value lo (fin false m e) true b 1 false (m * up e) (down e) one_pos (down_pos e) v (refl, refl) zero-le,
  le_value (fin false m e) hi false (m * up e) (down e) false b 1 (down_pos e) one_pos (refl, refl) w (le_trans (le_of_eq (mul-one (m * up e))) h),
)

-- ---- bounds that the format holds: every whole number up to 2 ^ 53
pub record Held (b : ℕ) : Type 0 where
  pub value : HasValue (round binary64 false b 1) false b 1

pub held_small : (b : ℕ) → b ≤ 2 ^ 53 → Held b
held_small b h = record { value = round_whole binary64 false b h }

-- of a literal: `held tt`
pub held : {b : ℕ} → T (leb b 9007199254740992) → Held b
held {b} t = held_small b (leb→le b (2 ^ 53) t)

-- ---- rounding
abbrev pub Signed : Bool → Float → Type 0
Signed s nan = ⊥
Signed s (inf t) = t ≡ s
Signed s (fin t m e) = t ≡ s

odd_signed : (d : ℕ) (s : Bool) (q k l : ℕ) → Signed s (odd d s q k l)
unfolding odd
odd_signed d s zero k l = refl
odd_signed d s (suc q) k l = refl

units_signed : (f : Format) (s : Bool) (q k : ℕ) → Signed s (units f s q k)
unfolding units
units_signed f s q k = go (ltb (q * 2 ^ k) (2 ^ (low f + suc (emax f))))
  where
    go : (b : Bool) → Signed s (cond b (odd (suc (prec f)) s q k (low f)) (inf s))
    go true = odd_signed (suc (prec f)) s q k (low f)
    go false = refl

pub round_signed : (f : Format) (s : Bool) (a c : ℕ) → Signed s (round f s a c)
round_signed f s a c = subst (λ (z : Float). Signed s z) (sym (round_is f s a c)) (units_signed f s _ _)

under : (b : ℕ) (x y : Float) → Signed false x → HasValue y false b 1 → T (le x y) → Within b x
unfolding le
under b nan y p v h = p
under b (inf false) nan p v h = elim v [ ]
under b (inf false) (inf _) p v h = elim v [ ]
under b (inf true) nan p v h = elim v [ ]
under b (inf true) (inf _) p v h = elim v [ ]
under b (inf true) (fin t n d) p v h = absurd (true≢false p)
under b (inf false) (fin t n d) p v h = absurd h
under b (fin t m e) y p v h = le_trans (le_of_eq (sym (mul-one (m * up e)))) (value_le (fin t m e) y false (m * up e) (down e) false b 1 (p, refl) v h)

-- a / c ≤ b
round_under : (a c b : ℕ) → 0 < c → Held b → a ≤ b * c → Within b (round binary64 false a c)
round_under a c b C B h =
    under b (round binary64 false a c) (round binary64 false b 1) (round_signed binary64 false a c) B.value (round_mono binary64 a c b 1 C one_pos (le_trans (le_of_eq (mul-one a)) h))

pub round_within : (s : Bool) (a c b : ℕ) → 0 < c → Held b → a ≤ b * c → Within b (round binary64 s a c)
round_within false a c b C B h = round_under a c b C B h
round_within true a c b C B h = subst (λ (z : Float). Within b z) (neg_round binary64 false a c) (neg_within b (round binary64 false a c) (round_under a c b C B h))

-- n ≤ a / c
pub round_least : (a c n : ℕ) → 0 < c → Held n → n * c ≤ a → AtLeast n (round binary64 false a c)
round_least a c n C N h =
    least_of_le n (round binary64 false a c) (round binary64 false n 1) N.value (round_mono binary64 n 1 a c one_pos C (le_trans h (le_of_eq (sym (mul-one a)))))

-- ---- a count as a float
pub count_least : (n : ℕ) → Held n → AtLeast n (of_int binary64 (pos n))
unfolding of_int
count_least n h = round_least n 1 n one_pos h (le_of_eq (mul-one n))

-- ---- sums and differences
less : (p q r : ℕ) → p ≤ r → p - q ≤ r
less p q r h = omega arith

exact_sum_within : (s : Bool) (A : ℕ) (t : Bool) (B C a b c : ℕ) → 0 < C → a + b ≤ c → Held c → A ≤ a * C → B ≤ b * C → Within c (sum binary64 s A t B C)
unfolding sum
exact_sum_within s A t B C a b c P l S h k =
    let e : a * C + b * C ≡ (a + b) * C = sym (add-mul a b C) in
    let f : (a + b) * C ≤ c * C = mul-le-mul_right C l in
    let both : A + B ≤ c * C = le_trans (add-le-add h k) (le_trans (le_of_eq e) f) in
    let left : A ≤ c * C = omega arith in
    let right : B ≤ c * C = omega arith in
    cond_within (beq s t) c (round binary64 s (A + B) C) (cond (ltb A B) (round binary64 t (B - A) C) (round binary64 (s && ltb B A) (A - B) C))
    (round_within s (A + B) C c P S both)
    (cond_within (ltb A B) c (round binary64 t (B - A) C) (round binary64 (s && ltb B A) (A - B) C)
    (round_within t (B - A) C c P S (less B A (c * C) right))
    (round_within (s && ltb B A) (A - B) C c P S (less A B (c * C) left)))

cross_l : (m u a de dd : ℕ) → m * u ≤ a * de → m * u * dd ≤ a * (de * dd)
cross_l m u a de dd h = le_trans (mul-le-mul_right dd h) (le_of_eq (mul_assoc a de dd))

cross_r : (n v b de dd : ℕ) → n * v ≤ b * dd → n * v * de ≤ b * (de * dd)
cross_r n v b de dd h = le_trans (mul-le-mul_right de h) (le_of_eq (mul_assoc b dd de ∙ ap (λ (z : ℕ). b * z) (mul_comm dd de)))

pub add_within : (a b c : ℕ) (x y : Float) → a + b ≤ c → Held c → Within a x → Within b y → Within c (add binary64 x y)
unfolding add
add_within a b c nan y l S h k = absurd h
add_within a b c (inf s) y l S h k = absurd h
add_within a b c (fin s m e) nan l S h k = absurd k
add_within a b c (fin s m e) (inf t) l S h k = absurd k
add_within a b c (fin s m e) (fin t n d) l S h k =
    exact_sum_within s (m * up e * down d) t (n * up d * down e) (down e * down d) a b c (mul-pos (down_pos e) (down_pos d)) l S (cross_l m (up e) a (down e) (down d) h) (cross_r n (up d) b (down e) (down d) k)

pub sub_within : (a b c : ℕ) (x y : Float) → a + b ≤ c → Held c → Within a x → Within b y → Within c (sub binary64 x y)
unfolding sub
sub_within a b c x y l S h k = add_within a b c x (neg y) l S h (neg_within b y k)

-- a sum of terms of one bound, as a loop adds them: k terms are in s already, and f a is the term of a
pub sum_within : {A : Type 0} (f : A → Float) (b k : ℕ) (s : Float) (xs : List A) → (k + length xs) * b ≤ 2 ^ 53 → Within (k * b) s → All (λ a. Within b (f a)) xs
    → Within ((k + length xs) * b) (foldl (λ (t : Float) (a : A). add binary64 t (f a)) s xs)
sum_within f b k s [] S h g = subst (λ (z : ℕ). Within (z * b) s) (sym (add-zero k)) h
sum_within {A} f b k s (x ∷ xs) S h g =
    let e : suc k + length xs ≡ k + suc (length xs) = suc-add k (length xs) ∙ sym (add-suc k (length xs)) in
    let S' : (suc k + length xs) * b ≤ 2 ^ 53 = le_trans (mul-le-mul_right b (le_of_eq e)) S in
    subst (λ (z : ℕ). Within (z * b) (foldl (λ (t : Float) (a : A). add binary64 t (f a)) (add binary64 s (f x)) xs)) e
    (sum_within f b (suc k) (add binary64 s (f x)) xs S'
    (add_within (k * b) b (suc k * b) s (f x) (le_of_eq (sym (suc-mul k b))) (held_small (suc k * b) (le_trans (mul-le-mul_right b (front k (length xs))) S')) h g.0) g.1)
  where
    front : (k l : ℕ) → suc k ≤ suc k + l
    front k l = omega arith

-- ---- products and quotients
pub mul_within : (a b c : ℕ) (x y : Float) → a * b ≤ c → Held c → Within a x → Within b y → Within c (mul binary64 x y)
unfolding mul
mul_within a b c nan y l S h k = absurd h
mul_within a b c (inf s) y l S h k = absurd h
mul_within a b c (fin s m e) nan l S h k = absurd k
mul_within a b c (fin s m e) (inf t) l S h k = absurd k
mul_within a b c (fin s m e) (fin t n d) l S h k =
    round_within (unlike s t) (m * up e * (n * up d)) (down e * down d) c (mul-pos (down_pos e) (down_pos d)) S
    (le_trans (mul-le-mul h k) (le_trans (le_of_eq (mul-mul-mul_comm a (down e) b (down d))) (mul-le-mul_right (down e * down d) l)))

first_pos : (n u c : ℕ) → 0 < c → c ≤ n * u → T (not (eqb n 0))
first_pos n u c C h = not_T (eqb n 0) (λ t. not-le_of_lt C (le_trans h (le_of_eq (ap (λ (z : ℕ). z * u) (eqb→eq n 0 t) ∙ zero-mul u))))

no_minus : (k d a : ℕ) → 0 < k * d → k * d + a ≤ 0 → ⊥
no_minus k d a h i = omega arith

-- x / y for |x| ≤ a and y ≥ k is q at most, where a ≤ q * k. With k = 1 the bound stays
pub div_within : (a k q : ℕ) (x y : Float) → a ≤ q * k → 0 < k → Held q → Within a x → AtLeast k y → Within q (div binary64 x y)
unfolding div
div_within a k q nan y l K S h i = absurd h
div_within a k q (inf s) y l K S h i = absurd h
div_within a k q (fin s m e) nan l K S h i = absurd i
div_within a k q (fin s m e) (inf true) l K S h i = absurd i
div_within a k q (fin s m e) (inf false) l K S h i = zero-le
div_within a k q (fin s m e) (fin true n d) l K S h i = absurd (no_minus k (down d) (n * up d) (mul-pos K (down_pos d)) i)
div_within a k q (fin s m e) (fin false n d) l K S h i =
    let p : 0 < n * up d = lt_of_lt_of_le (mul-pos K (down_pos d)) i in
    let r : m * up e * down d ≤ q * (n * up d * down e) =
    le_trans (mul-le-mul_right (down d) (le_trans h (mul-le-mul_right (down e) l)))
    (le_trans (le_of_eq (mul_right_comm (q * k) (down e) (down d) ∙ ap (λ (z : ℕ). z * down e) (mul_assoc q k (down d))))
    (le_trans (mul-le-mul_right (down e) (mul-le-mul_left q i)) (le_of_eq (mul_assoc q (n * up d) (down e))))) in
    subst (λ (z : Float). Within q z) (sym (div_is s m e n d (first_pos n (up d) (k * down d) (mul-pos K (down_pos d)) i))) (round_within (unlike s false) (m * up e * down d) (n * up d * down e) q (mul-pos p (down_pos e)) S r)

some_left : (x c d : ℕ) → 0 < d → d ≤ x * c → 0 < x
some_left zero c d D h = absurd (not-le_of_lt D (le_trans h (le_of_eq (zero-mul c))))
some_left (suc x) c d D h = zero-lt-suc x

-- x / y for |x| ≤ a and y ≥ 1 / c is q at most, where a * c ≤ q
pub div_share : (a c q : ℕ) (x y l : Float) → HasValue l false 1 c → a * c ≤ q → Held q → Within a x → T (le l y) → Within q (div binary64 x y)
unfolding div le
div_share a c q nan y l v g S h i = absurd h
div_share a c q (fin s m e) nan nan v g S h i = elim v [ ]
div_share a c q (fin s m e) nan (inf _) v g S h i = elim v [ ]
div_share a c q (fin s m e) (inf false) nan v g S h i = elim v [ ]
div_share a c q (fin s m e) (inf false) (inf _) v g S h i = elim v [ ]
div_share a c q (fin s m e) (inf true) nan v g S h i = elim v [ ]
div_share a c q (fin s m e) (inf true) (inf _) v g S h i = elim v [ ]
div_share a c q (inf s) y l v g S h i = absurd h
div_share a c q (fin s m e) nan (fin t k b) v g S h i = absurd i
div_share a c q (fin s m e) (inf true) (fin t k b) v g S h i = absurd i
div_share a c q (fin s m e) (inf false) (fin t k b) v g S h i = zero-le
div_share a c q (fin s m e) (fin true n d) l v g S h i =
    absurd (no_minus 1 (down d) (n * up d * c) (mul-pos one_pos (down_pos d)) (value_le l (fin true n d) false 1 c true (n * up d) (down d) v (refl, refl) i))
div_share a c q (fin s m e) (fin false n d) l v g S h i =
    let w : down d ≤ n * up d * c = le_trans (le_of_eq (sym (one-mul (down d)))) (value_le l (fin false n d) false 1 c false (n * up d) (down d) v (refl, refl) i) in
    let p : 0 < n * up d = some_left (n * up d) c (down d) (down_pos d) w in
    let r : m * up e * down d ≤ q * (n * up d * down e) =
    le_trans (mul-le-mul h w)
    (le_trans (le_of_eq (ap (λ (z : ℕ). a * down e * z) (mul_comm (n * up d) c) ∙ mul-mul-mul_comm a (down e) c (n * up d) ∙ ap (λ (z : ℕ). a * c * z) (mul_comm (down e) (n * up d))))
    (mul-le-mul_right (n * up d * down e) g)) in
    subst (λ (z : Float). Within q z)
    (sym (div_is s m e n d (first_pos n (up d) 1 one_pos p)))
    (round_within (unlike s false) (m * up e * down d) (n * up d * down e) q (mul-pos p (down_pos e)) S r)

-- ---- the root: NaN below zero
four : (k : ℕ) → 4 ^ k ≡ 2 ^ k * 2 ^ k
four zero = refl
four (suc k) = pow-succ' 4 k ∙ ap (λ (z : ℕ). 4 * z) (four k) ∙ sym (ap (λ (z : ℕ). z * z) (pow-succ' 2 k) ∙ mul-mul-mul_comm 2 (2 ^ k) 2 (2 ^ k))

root_bound : (n d b c w : ℕ) → n ≤ b * d → b ≤ c * c → root_down (n * (w * w) / d) ≤ c * w
root_bound n d b c w h l =
    let q : n * (w * w) / d ≤ b * (w * w) = div-le_of_le-mul d (le_trans (mul-le-mul_right (w * w) h) (le_of_eq (ap (λ (z : ℕ). z * (w * w)) (mul_comm b d) ∙ mul_assoc d b (w * w)))) in
    le_of_squares (root_down (n * (w * w) / d)) (c * w)
    (le_trans (root_is (n * (w * w) / d)).0 (le_trans q (le_trans (mul-le-mul_right (w * w) l) (le_of_eq (mul-mul-mul_comm c c w w)))))

pub sqrt_within : (b c : ℕ) (x : Float) → b ≤ c * c → Held c → Within b x → WithinOrNan c (sqrt_of x)
unfolding sqrt_of
sqrt_within b c nan l S h = absurd h
sqrt_within b c (inf s) l S h = absurd h
sqrt_within b c (fin s zero e) l S h = le_trans (le_of_eq (zero-mul (up e))) zero-le
sqrt_within b c (fin true (suc m) e) l S h = tt
sqrt_within b c (fin false (suc m) e) l S h =
    or_nan c (round binary64 false (root_down (suc m * up e * 4 ^ 1074 / down e)) (2 ^ 1074))
    (round_within false (root_down (suc m * up e * 4 ^ 1074 / down e)) (2 ^ 1074) c (pow_pos 1074) S
    (subst (λ (z : ℕ). root_down (suc m * up e * z / down e) ≤ c * 2 ^ 1074) (sym (four 1074)) (root_bound (suc m * up e) (down e) b c (2 ^ 1074) h l)))

-- ---- floor
pub down_le : (s : Bool) (a d b : ℕ) → 0 < d → a ≤ b * d → down_to s a d ≤ b
down_le false a d b D h = div-le_of_le-mul d (le_trans h (le_of_eq (mul_comm b d)))
down_le true a d b D h =
    let e : (b + 1) * d ≡ b * d + d = add-mul b 1 d ∙ ap (λ (z : ℕ). b * d + z) (one-mul d) in
    le ((a + (d - 1)) / d) ((div-lt_iff_lt-mul D).1 (omega arith))
  where
    le : (q : ℕ) → q < b + 1 → q ≤ b
    le q h = omega arith

pub floor_within : (b : ℕ) (x : Float) → Held b → Within b x → Within b (floor_of x)
unfolding floor_of
floor_within b nan S h = h
floor_within b (inf s) S h = h
floor_within b (fin s m e) S h = round_within s (down_to s (m * up e) (down e)) 1 b one_pos S (le_trans (down_le s (m * up e) (down e) b (down_pos e) h) (le_of_eq (sym (mul-one b))))

pub ceil_within : (b : ℕ) (x : Float) → Held b → Within b x → Within b (ceil_of x)
unfolding ceil_of
ceil_within b nan S h = h
ceil_within b (inf s) S h = h
ceil_within b (fin s m e) S h = round_within s (down_to (not s) (m * up e) (down e)) 1 b one_pos S (le_trans (down_le (not s) (m * up e) (down e) b (down_pos e) h) (le_of_eq (sym (mul-one b))))

-- ---- min, max, clamp
pub min_within : (b : ℕ) (x y : Float) → Within b x → Within b y → Within b (min_of x y)
unfolding min_of
min_within b x y h k = cond_within (lt y x) b y (cond (is_nan x) y x) k (cond_within (is_nan x) b y x k h)

pub max_within : (b : ℕ) (x y : Float) → Within b x → Within b y → Within b (max_of x y)
unfolding max_of
max_within b x y h k = cond_within (lt x y) b y (cond (is_nan x) y x) k (cond_within (is_nan x) b y x k h)

-- a NaN is passed over
pub max_or_nan : (b : ℕ) (x y : Float) → Within b x → WithinOrNan b y → Within b (max_of x y)
max_or_nan b nan y h k = absurd h
max_or_nan b (inf s) y h k = absurd h
max_or_nan b (fin s m e) nan h k = unfold max_of lt is_nan in h
max_or_nan b (fin s m e) (inf t) h k = absurd k
max_or_nan b (fin s m e) (fin t n d) h k = max_within b (fin s m e) (fin t n d) h k

-- an empty box takes its first point
pub min_first : (b : ℕ) (y : Float) → Within b y → min_of (inf false) y ≡ y
unfolding min_of lt
min_first b nan h = absurd h
min_first b (inf s) h = absurd h
min_first b (fin s m e) h = refl

pub max_first : (b : ℕ) (y : Float) → Within b y → max_of (inf true) y ≡ y
unfolding max_of lt
max_first b nan h = absurd h
max_first b (inf s) h = absurd h
max_first b (fin s m e) h = refl

-- `max` with n or more is n or more, whatever the other is
pub max_least : (n : ℕ) (x y : Float) → AtLeast n y → AtLeast n (max_of x y)
unfolding max_of
max_least n x y h = go (lt x y) (is_nan x) (λ t u. not_lt y x (least_not_nan n y h) u t)
  where
    go : (p q : Bool) → (T (not p) → T (not q) → T (le y x)) → AtLeast n (cond p y (cond q y x))
    go true q f = h
    go false true f = h
    go false false f = least_up n y x h (f tt tt)

-- ---- casts
cap : (a c b : ℕ) → a ≤ b → min a c ≤ b
cap a c b h = omega arith

pub cast_within : (w b : ℕ) (x : Float) → Within b x → to_unsigned w x ≤ b
unfolding to_unsigned
cast_within w b nan h = absurd h
cast_within w b (inf s) h = absurd h
cast_within w b (fin true m e) h = zero-le
cast_within w b (fin false m e) h = cap (m * up e / down e) (2 ^ w - 1) b (div-le_of_le-mul (down e) (le_trans h (le_of_eq (mul_comm b (down e)))))
