-- The order of floats of either sign: `le` is transitive and follows the exact values, a test that fails turns the other way and one that holds shuts the
-- other way out, the other sign turns it round, a number equals itself, and Rust's `min` and `max` keep to it. Assumes nothing.
use Rattle.std.proofs.Common.{◌≡◌, ℕ, ◌+◌, ◌*◌, ◌<◌, ◌≤◌, Bool, true, false, cond, not, ◌&&◌, ◌||◌, T, eqb, ltb, ◌⊎◌, ℤ, sym, refl, ap, subst, inl, inr, zero-le, le_trans, le_of_eq, le_of_lt, mul-le-mul_right, add-mul, zero-mul, mul_right_comm, not-le_of_lt, le_of_mul-le-mul_right, arith, eqb→eq, ltb→lt, nltb→le}
use mathlib.Core.Bool.{not-not}
use lib.Dec.{eqb_refl}
use lib.Ieee.{Float, nan, inf, fin, up, down, below, level, neg, lt, eq, le, is_nan}
use lib.Ieee.Fits.{down_pos, and_i, and_l, and_r, eq→eqb}
use lib.Ieee.Exact.{HasValue}
use Rattle.num.specs.Num.{min_of, max_of, clamp_of}

-- ---- ±a ≤ ±b
abbrev pub Le : Bool → ℕ → Bool → ℕ → Type 0
Le false a false b = a ≤ b
Le false a true b = a + b ≤ 0
Le true a false b = 0 ≤ a + b
Le true a true b = b ≤ a

pub or_split : (a b : Bool) → T (a || b) → T a ⊎ T b
or_split true b t = inl tt
or_split false b t = inr t

or_l : (a b : Bool) → T a → T (a || b)
or_l true b t = tt
or_l false b t = absurd t

or_r : (a b : Bool) → T b → T (a || b)
or_r true b t = tt
or_r false b t = t

-- a test's two ways
pub on_test : {A : Type 0} (b : Bool) → (T b → A) → (T (not b) → A) → A
on_test true f g = f tt
on_test false f g = g tt

none : (a b : ℕ) → a ≡ b → a ≡ 0 → a + b ≤ 0
none a b e z = omega arith

none' : (a b : ℕ) → a + b ≤ 0 → (a ≡ b) × (a ≡ 0)
none' a b h = (omega arith, omega arith)

same_sign : (a b : ℕ) (x : Bool) → T (ltb a b || (eqb a b && x)) → a ≤ b
same_sign a b x t = elim (or_split (ltb a b) (eqb a b && x) t) [ inl u ↦ le_of_lt (ltb→lt a b u) | inr u ↦ le_of_eq (eqb→eq a b (and_l (eqb a b) x u)) ]

same_sign' : (a b : ℕ) (x : Bool) → T (ltb b a || (eqb a b && x)) → b ≤ a
same_sign' a b x t = elim (or_split (ltb b a) (eqb a b && x) t) [ inl u ↦ le_of_lt (ltb→lt b a u) | inr u ↦ le_of_eq (sym (eqb→eq a b (and_l (eqb a b) x u))) ]

says : (s : Bool) (a : ℕ) (t : Bool) (b : ℕ) → T (below s a t b || level s a t b) → Le s a t b
says false a false b h = same_sign a b true h
says false a true b h = none a b (eqb→eq a b (and_l (eqb a b) (eqb a 0) h)) (eqb→eq a 0 (and_r (eqb a b) (eqb a 0) h))
says true a false b h = zero-le
says true a true b h = same_sign' a b true h

eq_of : (a b : ℕ) → a ≤ b → b ≤ a → a ≡ b
eq_of a b h k = omega arith

said : (s : Bool) (a : ℕ) (t : Bool) (b : ℕ) → Le s a t b → T (below s a t b || level s a t b)
said false a false b h =
    on_test (ltb a b) (λ t. or_l (ltb a b) (eqb a b && true) t) (λ t. or_r (ltb a b) (eqb a b && true) (and_i (eqb a b) true (eq→eqb (eq_of a b h (nltb→le a b t))) tt))
said false a true b h = let z = none' a b h in and_i (eqb a b) (eqb a 0) (eq→eqb z.0) (eq→eqb z.1)
said true a false b h =
    on_test (ltb 0 (a + b)) (λ t. or_l (ltb 0 (a + b)) (eqb a b && eqb a 0) t)
    (λ t. let z = none' a b (nltb→le 0 (a + b) t) in or_r (ltb 0 (a + b)) (eqb a b && eqb a 0) (and_i (eqb a b) (eqb a 0) (eq→eqb z.0) (eq→eqb z.1)))
said true a true b h =
    on_test (ltb b a) (λ t. or_l (ltb b a) (eqb a b && true) t) (λ t. or_r (ltb b a) (eqb a b && true) (and_i (eqb a b) true (eq→eqb (eq_of a b (nltb→le b a t) h)) tt))

swap : (a b : ℕ) → b + a ≤ 0 → a + b ≤ 0
swap a b h = omega arith

not_below : (s : Bool) (a : ℕ) (t : Bool) (b : ℕ) → T (not (below t b s a)) → Le s a t b
not_below false a false b h = nltb→le b a h
not_below false a true b h = swap a b (nltb→le 0 (b + a) h)
not_below true a false b h = zero-le
not_below true a true b h = nltb→le a b h

no_sum : (a b : ℕ) → 0 < a + b → b + a ≤ 0 → ⊥
no_sum a b h k = omega arith

shut : (s : Bool) (a : ℕ) (t : Bool) (b : ℕ) → T (below s a t b) → Le t b s a → ⊥
shut false a false b h k = not-le_of_lt (ltb→lt a b h) k
shut false a true b h k = h
shut true a false b h k = no_sum a b (ltb→lt 0 (a + b) h) k
shut true a true b h k = not-le_of_lt (ltb→lt b a h) k

-- ---- the order of fractions p / P ≤ q / Q
Le-trans : (s : Bool) (a : ℕ) (t : Bool) (b : ℕ) (u : Bool) (c : ℕ) → Le s a t b → Le t b u c → Le s a u c
Le-trans false a false b false c h k = omega arith
Le-trans false a false b true c h k = omega arith
Le-trans false a true b false c h k = omega arith
Le-trans false a true b true c h k = omega arith
Le-trans true a t b false c h k = zero-le
Le-trans true a false b true c h k = omega arith
Le-trans true a true b true c h k = omega arith

scale : (k : ℕ) (s : Bool) (a : ℕ) (t : Bool) (b : ℕ) → Le s a t b → Le s (a * k) t (b * k)
scale k false a false b h = mul-le-mul_right k h
scale k false a true b h = le_trans (le_of_eq (sym (add-mul a b k))) (le_trans (mul-le-mul_right k h) (le_of_eq (zero-mul k)))
scale k true a false b h = zero-le
scale k true a true b h = mul-le-mul_right k h

unscale : (k : ℕ) (s : Bool) (a : ℕ) (t : Bool) (b : ℕ) → 0 < k → Le s (a * k) t (b * k) → Le s a t b
unscale k false a false b K h = le_of_mul-le-mul_right h K
unscale k false a true b K h = le_of_mul-le-mul_right (le_trans (le_of_eq (add-mul a b k)) (le_trans h (le_of_eq (sym (zero-mul k))))) K
unscale k true a false b K h = zero-le
unscale k true a true b K h = le_of_mul-le-mul_right h K

Le-cong : (s : Bool) (a a' : ℕ) (t : Bool) (b b' : ℕ) → a ≡ a' → b ≡ b' → Le s a t b → Le s a' t b'
Le-cong s a a' t b b' p q h = subst (λ (x : ℕ). Le s x t b') p (subst (λ (x : ℕ). Le s a t x) q h)

pub Le-eq : (s : Bool) (a b : ℕ) → a ≡ b → Le s a s b
Le-eq false a b e = le_of_eq e
Le-eq true a b e = le_of_eq (sym e)

frac_trans : (s : Bool) (p P : ℕ) (t : Bool) (q Q : ℕ) (u : Bool) (r R : ℕ) → 0 < Q → Le s (p * Q) t (q * P) → Le t (q * R) u (r * Q) → Le s (p * R) u (r * P)
frac_trans s p P t q Q u r R pos h k =
    unscale Q s (p * R) u (r * P) pos
    (Le-trans s (p * R * Q) t (q * P * R) u (r * P * Q)
    (Le-cong s (p * Q * R) (p * R * Q) t (q * P * R) (q * P * R) (mul_right_comm p Q R) refl (scale R s (p * Q) t (q * P) h))
    (Le-cong t (q * R * P) (q * P * R) u (r * Q * P) (r * P * Q) (mul_right_comm q R P) (mul_right_comm r Q P) (scale P t (q * R) u (r * Q) k)))

-- ---- floats
fin_says : (s : Bool) (m : ℕ) (e : ℤ) (t : Bool) (n : ℕ) (d : ℤ) → T (le (fin s m e) (fin t n d)) → Le s (m * up e * down d) t (n * up d * down e)
unfolding le
fin_says s m e t n d h = says s (m * up e * down d) t (n * up d * down e) h

fin_said : (s : Bool) (m : ℕ) (e : ℤ) (t : Bool) (n : ℕ) (d : ℤ) → Le s (m * up e * down d) t (n * up d * down e) → T (le (fin s m e) (fin t n d))
unfolding le
fin_said s m e t n d h = said s (m * up e * down d) t (n * up d * down e) h

-- a test that fails turns the other way, where neither is a NaN
pub not_lt : (x y : Float) → T (not (is_nan x)) → T (not (is_nan y)) → T (not (lt y x)) → T (le x y)
unfolding le is_nan
not_lt nan y p q h = absurd p
not_lt (inf s) nan p q h = absurd q
not_lt (fin s m e) nan p q h = absurd q
not_lt (inf true) (inf true) p q h = tt
not_lt (inf true) (inf false) p q h = tt
not_lt (inf true) (fin t n d) p q h = tt
not_lt (inf false) (inf true) p q h = absurd h
not_lt (inf false) (inf false) p q h = tt
not_lt (inf false) (fin t n d) p q h = absurd h
not_lt (fin s m e) (inf true) p q h = absurd h
not_lt (fin s m e) (inf false) p q h = tt
not_lt (fin s m e) (fin t n d) p q h = fin_said s m e t n d (not_below s (m * up e * down d) t (n * up d * down e) h)

-- and one that holds shuts the other way out
pub lt_not_le : (x y : Float) → T (lt x y) → T (le y x) → ⊥
unfolding lt le
lt_not_le nan y h k = h
lt_not_le (inf s) nan h k = h
lt_not_le (inf true) (inf true) h k = h
lt_not_le (inf true) (inf false) h k = k
lt_not_le (inf false) (inf t) h k = h
lt_not_le (inf true) (fin t n d) h k = k
lt_not_le (inf false) (fin t n d) h k = h
lt_not_le (fin s m e) nan h k = h
lt_not_le (fin s m e) (inf true) h k = h
lt_not_le (fin s m e) (inf false) h k = k
lt_not_le (fin s m e) (fin t n d) h k = shut s (m * up e * down d) t (n * up d * down e) h (fin_says t n d s m e k)

pub lt_le : (x y : Float) → T (lt x y) → T (le x y)
unfolding le
lt_le x y h = or_l (lt x y) (eq x y) h

-- a true test names numbers
pub le_left : (x y : Float) → T (le x y) → T (not (is_nan x))
unfolding le is_nan
le_left nan y h = h
le_left (inf s) y h = tt
le_left (fin s m e) y h = tt

pub le_right : (x y : Float) → T (le x y) → T (not (is_nan y))
unfolding le is_nan
le_right nan nan h = h
le_right (inf s) nan h = h
le_right (fin s m e) nan h = h
le_right x (inf s) h = tt
le_right x (fin s m e) h = tt

pub trans : (x y z : Float) → T (le x y) → T (le y z) → T (le x z)
unfolding le is_nan
trans nan y z h k = absurd h
trans (inf true) y nan h k = absurd (le_right y nan k)
trans (inf true) y (inf true) h k = tt
trans (inf true) y (inf false) h k = tt
trans (inf true) y (fin u o g) h k = tt
trans (inf false) nan z h k = absurd h
trans (inf false) (inf true) z h k = absurd h
trans (inf false) (inf false) z h k = k
trans (inf false) (fin t n d) z h k = absurd h
trans (fin s m e) nan z h k = absurd h
trans (fin s m e) (inf true) z h k = absurd h
trans (fin s m e) (inf false) nan h k = absurd k
trans (fin s m e) (inf false) (inf true) h k = absurd k
trans (fin s m e) (inf false) (inf false) h k = tt
trans (fin s m e) (inf false) (fin u o g) h k = absurd k
trans (fin s m e) (fin t n d) nan h k = absurd k
trans (fin s m e) (fin t n d) (inf true) h k = absurd k
trans (fin s m e) (fin t n d) (inf false) h k = tt
trans (fin s m e) (fin t n d) (fin u o g) h k =
    fin_said s m e u o g (frac_trans s (m * up e) (down e) t (n * up d) (down d) u (o * up g) (down g) (down_pos d) (fin_says s m e t n d h) (fin_says t n d u o g k))

pub lt_le_trans : (x y z : Float) → T (lt x y) → T (le y z) → T (lt x z)
lt_le_trans x y z h k = on_test (lt x z) (λ t. t) (λ t. absurd (lt_not_le x y h (trans y z x k (not_lt z x (le_right y z k) (le_left x y (lt_le x y h)) t))))

-- ---- the other sign turns the order round
turned : (s : Bool) (a : ℕ) (t : Bool) (b : ℕ) → Le s a t b → Le (not t) b (not s) a
turned false a false b h = h
turned false a true b h = swap b a h
turned true a false b h = zero-le
turned true a true b h = h

pub neg_le : (x y : Float) → T (le x y) → T (le (neg y) (neg x))
unfolding le neg
neg_le nan y h = absurd h
neg_le (inf s) nan h = absurd h
neg_le (inf true) (inf true) h = tt
neg_le (inf true) (inf false) h = tt
neg_le (inf false) (inf true) h = absurd h
neg_le (inf false) (inf false) h = tt
neg_le (inf true) (fin t n d) h = tt
neg_le (inf false) (fin t n d) h = absurd h
neg_le (fin s m e) nan h = absurd h
neg_le (fin s m e) (inf true) h = absurd h
neg_le (fin s m e) (inf false) h = tt
neg_le (fin s m e) (fin t n d) h = fin_said (not t) n d (not s) m e (turned s (m * up e * down d) t (n * up d * down e) (fin_says s m e t n d h))

pub neg_neg : (x : Float) → neg (neg x) ≡ x
unfolding neg
neg_neg nan = refl
neg_neg (inf s) = ap inf (not-not s)
neg_neg (fin s m e) = ap (λ (b : Bool). fin b m e) (not-not s)

-- ---- by exact values: x is ±a / c and y is ±b / d
pub value_le : (x y : Float) (s : Bool) (a c : ℕ) (t : Bool) (b d : ℕ) → HasValue x s a c → HasValue y t b d → T (le x y) → Le s (a * d) t (b * c)
value_le nan y s a c t b d v w h = elim v [ ]
value_le (inf _) y s a c t b d v w h = elim v [ ]
value_le (fin s' m e) nan s a c t b d v w h = elim w [ ]
value_le (fin s' m e) (inf _) s a c t b d v w h = elim w [ ]
value_le (fin s' m e) (fin t' n g) s a c t b d v w h =
    frac_trans s a c s (m * up e) (down e) t b d (down_pos e) (Le-eq s (a * down e) (m * up e * c) (sym v.1))
    (frac_trans s (m * up e) (down e) t (n * up g) (down g) t b d (down_pos g)
    (subst (λ (z : Bool). Le z (m * up e * down g) t (n * up g * down e)) v.0 (subst (λ (z : Bool). Le s' (m * up e * down g) z (n * up g * down e)) w.0 (fin_says s' m e t' n g h)))
    (Le-eq t (n * up g * d) (b * down g) w.1))

pub le_value : (x y : Float) (s : Bool) (a c : ℕ) (t : Bool) (b d : ℕ) → 0 < c → 0 < d → HasValue x s a c → HasValue y t b d → Le s (a * d) t (b * c) → T (le x y)
le_value nan y s a c t b d C D v w h = elim v [ ]
le_value (inf _) y s a c t b d C D v w h = elim v [ ]
le_value (fin s' m e) nan s a c t b d C D v w h = elim w [ ]
le_value (fin s' m e) (inf _) s a c t b d C D v w h = elim w [ ]
le_value (fin s' m e) (fin t' n g) s a c t b d C D v w h =
    fin_said s' m e t' n g
    (subst (λ (z : Bool). Le z (m * up e * down g) t' (n * up g * down e)) (sym v.0) (subst (λ (z : Bool). Le s (m * up e * down g) z (n * up g * down e)) (sym w.0)
    (frac_trans s (m * up e) (down e) s a c t (n * up g) (down g) C (Le-eq s (m * up e * c) (a * down e) v.1)
    (frac_trans s a c t b d t (n * up g) (down g) D h (Le-eq t (b * down g) (n * up g * d) (sym w.1))))))

-- ---- a number equals itself: a stored number passes `==` with the one computed again
same_level : (s : Bool) (a : ℕ) → T (level s a s a)
same_level true a = and_i (eqb a a) true (eqb_refl a) tt
same_level false a = and_i (eqb a a) true (eqb_refl a) tt

pub eq_same : (x : Float) → T (not (is_nan x)) → T (eq x x)
unfolding eq is_nan
eq_same nan p = absurd p
eq_same (inf true) p = tt
eq_same (inf false) p = tt
eq_same (fin s m e) p = same_level s (m * up e * down e)

pub le_same : (x : Float) → T (not (is_nan x)) → T (le x x)
le_same x p = on_test (lt x x) (lt_le x x) (not_lt x x p p)

-- ---- the smaller is not above the first, and the larger not below it
pub min_le_left : (x y : Float) → T (not (is_nan x)) → T (le (min_of x y) x)
unfolding min_of
min_le_left x y p = go (lt y x) (is_nan x) (lt_le y x) p
  where
    go : (b c : Bool) → (T b → T (le y x)) → T (not c) → T (le (cond b y (cond c y x)) x)
    go true c f q = f tt
    go false true f q = absurd q
    go false false f q = le_same x p

pub max_ge_left : (x y : Float) → T (not (is_nan x)) → T (le x (max_of x y))
unfolding max_of
max_ge_left x y p = go (lt x y) (is_nan x) (lt_le x y) p
  where
    go : (b c : Bool) → (T b → T (le x y)) → T (not c) → T (le x (cond b y (cond c y x)))
    go true c f q = f tt
    go false true f q = absurd q
    go false false f q = le_same x p

-- a number held to a stretch lies in it
pub clamp_between : (x lo hi : Float) → T (not (is_nan x)) → T (le lo hi) → T (le lo (clamp_of x lo hi)) × T (le (clamp_of x lo hi) hi)
unfolding clamp_of
clamp_between x lo hi p l = go (lt x lo) (lt hi x) (not_lt lo x (le_left lo hi l) p) (not_lt x hi p (le_right lo hi l))
  where
    go : (b c : Bool) → (T (not b) → T (le lo x)) → (T (not c) → T (le x hi)) → T (le lo (cond b lo (cond c hi x))) × T (le (cond b lo (cond c hi x)) hi)
    go true c f g = (le_same lo (le_left lo hi l), l)
    go false true f g = (l, le_same hi (le_right lo hi l))
    go false false f g = (f tt, g tt)
