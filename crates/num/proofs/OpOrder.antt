-- The operations and the order, for floats of either sign: a difference of floats in order is not above zero, a sum grows with what is added, and a quotient
-- by what is above zero keeps to zero and to one. Assumes nothing.
use Rattle.std.proofs.Common.{◌≡◌, ℕ, zero, suc, ◌+◌, ◌-◌, ◌*◌, ◌<◌, ◌≤◌, Bool, true, false, cond, not, ◌&&◌, ◌||◌, T, eqb, ltb, ℤ, sym, refl, ap, ◌∙◌, subst, zero-le, le_trans, le_of_eq, mul-le-mul_right, mul_assoc, mul_comm, add-mul, lt_of_mul-lt-mul_right, mul-lt-mul_of_pos_right, mul-pos, one-mul, zero-mul, mul-one, mul_right_comm, not-le_of_lt, mul_left_comm, arith, eqb→eq, ltb→lt, nltb→le, T_not, pow_pos}
use native.Mathlib.Nat.{mul-sub}
use lib.Dec.{not_T}
use lib.Ieee.{Float, nan, inf, fin, binary64, up, down, unlike, of_bits, round, neg, sum, add, sub, div, lt, eq, le, fits, is_nan}
use lib.Ieee.Bits.{is_false, cond_no, of_bits-fits}
use lib.Ieee.Fits.{down_pos, up_pos, and_l, and_r, div-fits}
use lib.Ieee.Back.{whole_unique}
use lib.Ieee.Order.{round_mono}
use lib.Ieee.Positive.{above, above_of_le}
use Rattle.num.specs.Ops.{◌⊕◌, ◌⊖◌, ◌⊘◌, zero_f, one_f}
use Rattle.num.specs.Num.{min_of, max_of}
use Rattle.num.specs.Root.{sqrt_of}
use Rattle.num.proofs.Whole.{neg_round}
use Rattle.num.proofs.FloatOrder.{Le, value_le, lt_le, lt_not_le, le_right}
use Rattle.num.proofs.NearLaws.{sqrt_is_ieee}
use Rattle.num.proofs.RootOrder.{zero_rounded, le_endless}

-- ---- what is not above zero
turned : (x : Float) → T (le zero_f x) → T (not (lt zero_f (neg x)))
unfolding le lt neg of_bits
turned nan h = tt
turned (inf true) h = h
turned (inf false) h = tt
turned (fin false m e) h = tt
turned (fin true m e) h =
    not_T (ltb (0 * 1 * down e) (m * up e * 1))
    (λ t. not-le_of_lt (ltb→lt (0 * 1 * down e) (m * up e * 1) t) (le_of_eq (sym (eqb→eq (0 * 1 * down e) (m * up e * 1) (and_l (eqb (0 * 1 * down e) (m * up e * 1)) (eqb (0 * 1 * down e) 0) h)))))

rounded : (s : Bool) (a c : ℕ) → 0 < c → (T (not s) → a ≡ 0) → T (not (lt zero_f (round binary64 s a c)))
rounded false a c C h =
    not_T (lt zero_f (round binary64 false a c))
    (λ t. lt_not_le zero_f (round binary64 false a c) t
    (subst (λ (z : Float). T (le (round binary64 false a c) z)) (sym zero_rounded) (round_mono binary64 a c 0 1 C (pow_pos 0) (le_trans (le_of_eq (ap (λ (x : ℕ). x * 1) (h tt))) zero-le))))
rounded true a c C h =
    subst (λ (z : Float). T (not (lt zero_f z))) (neg_round binary64 false a c)
    (turned (round binary64 false a c)
    (subst (λ (z : Float). T (le z (round binary64 false a c))) (sym zero_rounded) (round_mono binary64 0 1 a c (pow_pos 0) C (le_trans (le_of_eq (zero-mul c)) zero-le))))

no_less : (a b : ℕ) → a ≤ b → a - b ≡ 0
no_less a b h = omega arith

nothing : (a : ℕ) → a ≤ 0 → a ≡ 0
nothing a h = omega arith

-- ---- a difference of floats in order
sum_under : (s : Bool) (a : ℕ) (t : Bool) (b c : ℕ) → 0 < c → Le s a t b → T (not (lt zero_f (sum binary64 s a (not t) b c)))
unfolding sum
sum_under false a true b c C h = rounded false (a + b) c C (λ t. nothing (a + b) h)
sum_under true a false b c C h = rounded true (a + b) c C (λ t. absurd t)
sum_under false a false b c C h = go (ltb a b)
  where
    go : (p : Bool) → T (not (lt zero_f (cond p (round binary64 true (b - a) c) (round binary64 false (a - b) c))))
    go true = rounded true (b - a) c C (λ t. absurd t)
    go false = rounded false (a - b) c C (λ t. no_less a b h)
sum_under true a true b c C h = go (ltb a b) (ltb→lt a b) (ltb b a) (nltb→le b a)
  where
    go : (p : Bool) → (T p → a < b) → (q : Bool) → (T (not q) → a ≤ b) → T (not (lt zero_f (cond p (round binary64 false (b - a) c) (round binary64 q (a - b) c))))
    go true k q l = absurd (not-le_of_lt (k tt) h)
    go false k q l = rounded q (a - b) c C (λ t. no_less a b (l t))

less_under : (a b : Float) → T (le a b) → T (not (lt zero_f (a ⊖ b)))
unfolding sub le lt of_bits
less_under nan b h = absurd h
less_under (inf true) nan h = tt
less_under (inf true) (inf true) h = tt
less_under (inf true) (inf false) h = tt
less_under (inf true) (fin t n d) h = tt
less_under (inf false) nan h = tt
less_under (inf false) (inf true) h = absurd h
less_under (inf false) (inf false) h = tt
less_under (inf false) (fin t n d) h = absurd h
less_under (fin s m e) nan h = tt
less_under (fin s m e) (inf true) h = absurd h
less_under (fin s m e) (inf false) h = tt
less_under (fin s m e) (fin t n d) h =
    sum_under s (m * up e * down d) t (n * up d * down e) (down e * down d) (mul-pos (down_pos e) (down_pos d))
    (value_le (fin s m e) (fin t n d) s (m * up e) (down e) t (n * up d) (down d) (refl, refl) (refl, refl) h)

-- ---- a quotient by what is above zero
some : (n : ℕ) → T (ltb 0 n) → T (not (eqb n 0))
some n p = not_T (eqb n 0) (λ t. not-le_of_lt (ltb→lt 0 n p) (le_of_eq (eqb→eq n 0 t)))

pub div_is : (s : Bool) (m : ℕ) (e : ℤ) (n : ℕ) (d : ℤ) → T (not (eqb n 0)) → fin s m e ⊘ fin false n d ≡ round binary64 (unlike s false) (m * up e * down d) (n * up d * down e)
unfolding div
div_is s m e n d p = cond_no (eqb n 0) (cond (eqb m 0) nan (inf (unlike s false))) (round binary64 (unlike s false) (m * up e * down d) (n * up d * down e)) p

part_under : (y w : Float) → T (not (lt zero_f y)) → T (above w) → T (not (lt zero_f (y ⊘ w)))
unfolding div lt of_bits
part_under nan w h p = tt
part_under (inf s) nan h p = tt
part_under (inf s) (inf t) h p = tt
part_under (inf true) (fin true n d) h p = absurd p
part_under (inf true) (fin false n d) h p = tt
part_under (inf false) (fin t n d) h p = absurd h
part_under (fin s m e) nan h p = tt
part_under (fin true m e) (inf true) h p = absurd p
part_under (fin true m e) (inf false) h p = tt
part_under (fin false m e) (inf true) h p = absurd p
part_under (fin false m e) (inf false) h p = tt
part_under (fin s m e) (fin true n d) h p = absurd p
part_under (fin true m e) (fin false n d) h p =
    subst (λ (z : Float). T (not (lt zero_f z))) (sym (div_is true m e n d (some n p))) (rounded true (m * up e * down d) (n * up d * down e) (mul-pos (mul-pos (ltb→lt 0 n p) (up_pos d)) (down_pos e)) (λ t. absurd t))
part_under (fin false m e) (fin false n d) h p =
    subst (λ (z : Float). T (not (lt zero_f z))) (sym (div_is false m e n d (some n p)))
    (rounded false (m * up e * down d) (n * up d * down e) (mul-pos (mul-pos (ltb→lt 0 n p) (up_pos d)) (down_pos e)) (λ t. ap (λ (x : ℕ). x * down d) (none (m * up e) (down e) (nltb→le (0 * 1 * down e) (m * up e * 1) h)) ∙ zero-mul (down d)))
  where
    none : (a d : ℕ) → a * 1 ≤ 0 * 1 * d → a ≡ 0
    none a d h = omega (arith, zero-mul d)

-- ---- the quotient of such a difference, held to zero by `max`
max_zero : (y : Float) → T (not (lt zero_f y)) → max_of zero_f y ≡ zero_f
unfolding max_of is_nan of_bits
max_zero y h = go (lt zero_f y) h
  where
    go : (p : Bool) → T (not p) → cond p y (cond (is_nan zero_f) y zero_f) ≡ zero_f
    go true k = absurd k
    go false k = refl

pub lower_end : (a b w : Float) → T (le a b) → T (above w) → max_of zero_f ((a ⊖ b) ⊘ w) ≡ zero_f
lower_end a b w h p = max_zero ((a ⊖ b) ⊘ w) (part_under (a ⊖ b) w (less_under a b h) p)

-- ---- a quotient of what is not below its divisor, held to one by `min`
one_rounded : one_f ≡ round binary64 false 1 1
unfolding of_bits round
one_rounded = refl

equal_one : (x : Float) → T (fits binary64 x) → T (eq one_f x) → x ≡ one_f
unfolding eq of_bits
equal_one nan f h = absurd h
equal_one (inf s) f h = absurd h
equal_one (fin true n d) f h = absurd (not-le_of_lt (down_pos d) (none (down d) (eqb→eq (1 * 1 * down d) 0 (and_r (eqb (1 * 1 * down d) (n * up d * 1)) (eqb (1 * 1 * down d) 0) h))))
  where
    none : (d : ℕ) → 1 * 1 * d ≡ 0 → d ≤ 0
    none d h = omega arith
equal_one (fin false n d) f h = whole_unique binary64 (fin false n d) one_f false 1 f (of_bits-fits binary64 0x3ff0_0000_0000_0000) (refl, same (n * up d) (down d) (eqb→eq (1 * 1 * down d) (n * up d * 1) (and_l (eqb (1 * 1 * down d) (n * up d * 1)) true h))) (refl, refl)
  where
    same : (a d : ℕ) → 1 * 1 * d ≡ a * 1 → a * 1 ≡ 1 * d
    same a d h = omega arith

min_one : (x : Float) → T (fits binary64 x) → T (le one_f x) → min_of x one_f ≡ one_f
unfolding min_of le
min_one x f h = go (lt one_f x) (is_nan x) (eq one_f x) h (equal_one x f)
  where
    go : (p q r : Bool) → T (p || r) → (T r → x ≡ one_f) → cond p one_f (cond q one_f x) ≡ one_f
    go true q r k e = refl
    go false true r k e = refl
    go false false r k e = e k

pub higher_end : (q w : Float) → T (above w) → T (le w q) → min_of (q ⊘ w) one_f ≡ one_f
higher_end q nan p h = absurd p
higher_end q (inf true) p h = absurd p
higher_end nan (inf false) p h = unfold div min_of lt is_nan of_bits in refl
higher_end (inf s) (inf false) p h = unfold div min_of lt is_nan of_bits in refl
higher_end (fin s m e) (inf false) p h = absurd (unfold le in h)
higher_end q (fin true n d) p h = absurd p
higher_end q (fin false n d) p h = go q h (above_of_le (fin false n d) q p h)
  where
    go : (q : Float) → T (le (fin false n d) q) → T (above q) → min_of (q ⊘ fin false n d) one_f ≡ one_f
    go nan h a = absurd a
    go (inf true) h a = absurd a
    go (inf false) h a = unfold div min_of lt is_nan of_bits in refl
    go (fin true m e) h a = absurd a
    go (fin false m e) h a =
        min_one (fin false m e ⊘ fin false n d) (div-fits binary64 (fin false m e) (fin false n d))
        (subst (λ (z : Float). T (le one_f z)) (sym (div_is false m e n d (some n p)))
        (subst (λ (z : Float). T (le z (round binary64 false (m * up e * down d) (n * up d * down e)))) (sym one_rounded)
        (round_mono binary64 1 1 (m * up e * down d) (n * up d * down e) (pow_pos 0) (mul-pos (mul-pos (ltb→lt 0 n p) (up_pos d)) (down_pos e))
        (le_trans (le_of_eq (one-mul (n * up d * down e)))
        (le_trans (value_le (fin false n d) (fin false m e) false (n * up d) (down d) false (m * up e) (down e) (refl, refl) (refl, refl) h) (le_of_eq (sym (mul-one (m * up e * down d)))))))))

-- ---- a sum grows with what is added: M / E + N / D and M / E + A / G, with M / E of either sign
module _ (M E N D A G : ℕ) (h : N * G ≤ A * D) where
  more : (M * D + N * E) * (E * G) ≤ (M * G + A * E) * (E * D)
  more =
      let a : M * D * (E * G) ≡ M * G * (E * D) = simp (mul_assoc, mul_comm, mul_left_comm) in
      let b : N * E * (E * G) ≤ A * E * (E * D) = simp (mul_assoc, mul_comm, mul_left_comm) (simp (mul_assoc, mul_comm, mul_left_comm) at (mul-le-mul_right (E * E) h)) in
      let c : (M * D + N * E) * (E * G) ≡ M * D * (E * G) + N * E * (E * G) = add-mul (M * D) (N * E) (E * G) in
      let d : (M * G + A * E) * (E * D) ≡ M * G * (E * D) + A * E * (E * D) = add-mul (M * G) (A * E) (E * D) in
      omega arith

  rest : (N * E - M * D) * (E * G) ≤ (A * E - M * G) * (E * D)
  rest =
      let a : E * G * (M * D) ≡ E * D * (M * G) = simp (mul_assoc, mul_comm, mul_left_comm) in
      let b : E * G * (N * E) ≤ E * D * (A * E) = simp (mul_assoc, mul_comm, mul_left_comm) (simp (mul_assoc, mul_comm, mul_left_comm) at (mul-le-mul_right (E * E) h)) in
      let c : (N * E - M * D) * (E * G) ≡ E * G * (N * E) - E * G * (M * D) = mul_comm (N * E - M * D) (E * G) ∙ mul-sub (E * G) (N * E) (M * D) in
      let d : (A * E - M * G) * (E * D) ≡ E * D * (A * E) - E * D * (M * G) = mul_comm (A * E - M * G) (E * D) ∙ mul-sub (E * D) (A * E) (M * G) in
      omega arith

  still : 0 < G → M * D < N * E → M * G < A * E
  still Gp l =
      let a : M * G * D ≡ M * D * G = mul_right_comm M G D in
      let b : M * D * G < N * E * G = mul-lt-mul_of_pos_right l Gp in
      let c : N * E * G ≡ N * G * E = mul_right_comm N E G in
      let d : N * G * E ≤ A * D * E = mul-le-mul_right E h in
      let e : A * D * E ≡ A * E * D = mul_right_comm A D E in
      lt_of_mul-lt-mul_right D (omega arith)

  module _ (Ep : 0 < E) (Dp : 0 < D) (Gp : 0 < G) where
    sum_grows : (s : Bool) → T (lt zero_f (sum binary64 s (M * D) false (N * E) (E * D))) → T (le (sum binary64 s (M * D) false (N * E) (E * D)) (sum binary64 s (M * G) false (A * E) (E * G)))
    unfolding sum
    sum_grows false k = round_mono binary64 (M * D + N * E) (E * D) (M * G + A * E) (E * G) (mul-pos Ep Dp) (mul-pos Ep Gp) more
    sum_grows true k = go (ltb (M * D) (N * E)) (ltb→lt (M * D) (N * E)) (ltb (N * E) (M * D)) (nltb→le (N * E) (M * D)) (ltb (M * G) (A * E)) (nltb→le (M * G) (A * E)) k
      where
        go : (p : Bool) → (T p → M * D < N * E) → (q : Bool) → (T (not q) → M * D ≤ N * E) → (r : Bool) → (T (not r) → A * E ≤ M * G)
            → T (lt zero_f (cond p (round binary64 false (N * E - M * D) (E * D)) (round binary64 q (M * D - N * E) (E * D))))
            → T (le (cond p (round binary64 false (N * E - M * D) (E * D)) (round binary64 q (M * D - N * E) (E * D))) (cond r (round binary64 false (A * E - M * G) (E * G)) (round binary64 (true && ltb (A * E) (M * G)) (M * G - A * E) (E * G))))
        go true f q g true i k = round_mono binary64 (N * E - M * D) (E * D) (A * E - M * G) (E * G) (mul-pos Ep Dp) (mul-pos Ep Gp) rest
        go true f q g false i k = absurd (not-le_of_lt (still Gp (f tt)) (i tt))
        go false f q g r i k = absurd (T_not (lt zero_f (round binary64 q (M * D - N * E) (E * D))) (rounded q (M * D - N * E) (E * D) (mul-pos Ep Dp) (λ t. no_less (M * D) (N * E) (g t))) k)

-- a number without a minus sign
abbrev pub plain : Float → Bool
plain nan = false
plain (inf s) = not s
plain (fin s m e) = not s

pub add_grows : (c a b : Float) → T (plain a) → T (plain b) → T (le a b) → T (lt zero_f (c ⊕ a)) → T (le (c ⊕ a) (c ⊕ b))
unfolding add le lt of_bits
add_grows nan a b pa pb h k = absurd k
add_grows (inf s) nan b pa pb h k = absurd pa
add_grows (inf s) (inf true) b pa pb h k = absurd pa
add_grows (inf true) (inf false) b pa pb h k = absurd k
add_grows (inf false) (inf false) nan pa pb h k = absurd pb
add_grows (inf false) (inf false) (inf true) pa pb h k = absurd pb
add_grows (inf false) (inf false) (inf false) pa pb h k = tt
add_grows (inf false) (inf false) (fin t n d) pa pb h k = absurd h
add_grows (inf true) (fin t n d) b pa pb h k = absurd k
add_grows (inf false) (fin t n d) nan pa pb h k = absurd pb
add_grows (inf false) (fin t n d) (inf true) pa pb h k = absurd pb
add_grows (inf false) (fin t n d) (inf false) pa pb h k = tt
add_grows (inf false) (fin t n d) (fin u o g) pa pb h k = tt
add_grows (fin s m e) nan b pa pb h k = absurd pa
add_grows (fin s m e) (inf true) b pa pb h k = absurd pa
add_grows (fin s m e) (inf false) nan pa pb h k = absurd pb
add_grows (fin s m e) (inf false) (inf true) pa pb h k = absurd pb
add_grows (fin s m e) (inf false) (inf false) pa pb h k = tt
add_grows (fin s m e) (inf false) (fin u o g) pa pb h k = absurd h
add_grows (fin s m e) (fin true n d) b pa pb h k = absurd pa
add_grows (fin s m e) (fin false n d) nan pa pb h k = absurd pb
add_grows (fin s m e) (fin false n d) (inf true) pa pb h k = absurd pb
add_grows (fin s m e) (fin false n d) (inf false) pa pb h k =
    let x = sum binary64 s (m * up e * down d) false (n * up d * down e) (down e * down d) in
    le_endless x (is_false (is_nan x) (le_right zero_f x (lt_le zero_f x k)))
add_grows (fin s m e) (fin false n d) (fin true o g) pa pb h k = absurd pb
add_grows (fin s m e) (fin false n d) (fin false o g) pa pb h k =
    sum_grows (m * up e) (down e) (n * up d) (down d) (o * up g) (down g)
    (value_le (fin false n d) (fin false o g) false (n * up d) (down d) false (o * up g) (down g) (refl, refl) (refl, refl) h) (down_pos e) (down_pos d) (down_pos g) s k

pub plain_above : (x : Float) → T (above x) → T (plain x)
plain_above nan p = p
plain_above (inf s) p = p
plain_above (fin true m e) p = p
plain_above (fin false m e) p = tt

pub plain_root : (x : Float) → T (fits binary64 x) → T (above x) → T (plain (sqrt_of x))
plain_root nan f p = absurd p
plain_root (inf true) f p = absurd p
plain_root (inf false) f p = unfold sqrt_of in tt
plain_root (fin true m e) f p = absurd p
plain_root (fin false zero e) f p = absurd p
plain_root (fin false (suc m) e) f p = subst (λ (z : Float). T (plain z)) (sym (sqrt_is_ieee m e f).2) tt
