-- Rust's `%` on floats is exact, and with it `rem_euclid` is one rounding of the least remainder that is not negative. Assumes nothing.
use Rattle.std.proofs.Common.{◌≡◌, ℕ, zero, suc, ◌+◌, ◌-◌, ◌*◌, ◌/◌, ◌%◌, ◌^◌, ◌<◌, ◌≤◌, Bool, true, false, cond, not, ◌&&◌, T, eqb, ltb, leb, ℤ, pos, negsuc, sym, refl, ap, ◌∙◌, subst, inl, inr, true≢false, le_trans, le_of_eq, lt_of_lt_of_le, lt_of_le_of_lt, le_of_lt, lt_irrefl, mod-lt, zero-lt-suc, mul_assoc, mul_comm, add-mul, eq-zero-or-pos, lt_of_mul-lt-mul_right, mul-lt-mul_of_pos_right, mul-pos, one-mul, div-add-mod', zero-mul, mul-one, mul_right_comm, arith, eqb→eq, lt→ltb, leb→le, pow_pos, pow-add, lt-ltb}
use native.Mathlib.Nat.{mod-le, mul-sub}
use lib.Arith.{digits_mod}
use mathlib.Core.Bool.{false≢true}
use lib.Dec.{nleb→lt, not_T}
use lib.Ieee.{Float, binary64, nan, inf, fin, up, down, round, fits, rem, add, sum, lt}
use lib.Ieee.Scale.{round_same}
use lib.Ieee.Bits.{is_true}
use Rattle.num.specs.Num.{abs_of, least_rem, rem_euclid_of}
use lib.Ieee.Fits.{down_pos, up_pos, and_l, and_r}
use lib.Ieee.Exact.{HasValue, round_exact}
use Rattle.num.proofs.Whole.{small, under_top}
use Rattle.num.proofs.FloorLaws.{no_small_zero, nought, not_negative}

-- ---- a common factor goes through a remainder
pub mod_scale : (a b c : ℕ) → 0 < b → 0 < c → a * c % (b * c) ≡ a % b * c
mod_scale a b c B C =
    let e : a * c ≡ a / b * (b * c) + a % b * c = ap (λ (x : ℕ). x * c) (sym (div-add-mod' a b)) ∙ add-mul (a / b * b) (a % b) c ∙ ap (λ (x : ℕ). x + a % b * c) (mul_assoc (a / b) b c) in
    ap (λ (x : ℕ). x % (b * c)) e ∙ digits_mod (a / b) (mul-lt-mul_of_pos_right (mod-lt a B) C)

-- ---- a float in units of the smallest one: m * 2 ^ k
few_places : (k : ℕ) → 2 ^ suc k ≤ 2 ^ 1074 → suc k ≤ 1074
few_places k h = le (lt_of_not (λ (g : 1075 ≤ suc k). lt_irrefl (2 ^ 1074) (lt_of_lt_of_le (lib.Pow.pow-lt {i = 1074} {j = 1075} (lib.Dec.lit< tt)) (le_trans (lib.Pow.pow_mono g) h))))
  where
    le : suc k < 1075 → suc k ≤ 1074
    le h = omega arith

    lt_of_not : (1075 ≤ suc k → ⊥) → suc k < 1075
    lt_of_not f = native.Mathlib.Nat.lt_of_not-le f

deep : (s : Bool) (m k : ℕ) → T (fits binary64 (fin s (suc m) (negsuc k))) → 2 ^ suc k ≤ 2 ^ 1074
unfolding fits
deep s m k t = leb→le (2 ^ suc k) (2 ^ 1074) (and_r (eqb (suc m % 2) 1 && ltb (suc m) (2 ^ 53)) (leb (2 ^ suc k) (2 ^ 1074)) (and_l (eqb (suc m % 2) 1 && ltb (suc m) (2 ^ 53) && leb (2 ^ suc k) (2 ^ 1074)) (ltb (suc m * 1) (2 ^ 1024 * 2 ^ suc k)) t))

pub places : (s : Bool) (m : ℕ) (e : ℤ) → T (fits binary64 (fin s m e)) → (k : ℕ) × (up e * 2 ^ 1074 ≡ 2 ^ k * down e)
places s m (pos a) t = (a + 1074, sym (pow-add 2 a 1074) ∙ sym (mul-one (2 ^ (a + 1074))))
places s zero (negsuc k) t = absurd (no_small_zero s k t)
places s (suc m) (negsuc k) t =
    let l = few_places k (deep s m k t) in
    let b : 1074 - suc k + suc k ≡ 1074 = omega arith in
    (1074 - suc k, one-mul (2 ^ 1074) ∙ sym (ap (λ (x : ℕ). 2 ^ x) b) ∙ pow-add 2 (1074 - suc k) (suc k))

-- ---- the remainder of two such numbers has few digits
shape : (m n a b : ℕ) → m < 2 ^ 53 → n < 2 ^ 53 → 0 < n → (q : ℕ) × (j : ℕ) × (q < 2 ^ 53) × (m * 2 ^ a % (n * 2 ^ b) ≡ q * 2 ^ j)
shape m n a b M N p = go (leb b a) (leb→le b a) (nleb→lt b a)
  where
    split : (x a b : ℕ) → b ≤ a → x * 2 ^ a ≡ x * 2 ^ (a - b) * 2 ^ b
    split x a b l = ap (λ (k : ℕ). x * 2 ^ k) (sym (lib.Ieee.Digits.back a b l)) ∙ ap (λ (k : ℕ). x * k) (pow-add 2 (a - b) b) ∙ sym (mul_assoc x (2 ^ (a - b)) (2 ^ b))

    go : (t : Bool) → (T t → b ≤ a) → (T (not t) → a < b) → (q : ℕ) × (j : ℕ) × (q < 2 ^ 53) × (m * 2 ^ a % (n * 2 ^ b) ≡ q * 2 ^ j)
    go true h k = (
      m * 2 ^ (a - b) % n,
      b,
      lt_of_lt_of_le (mod-lt (m * 2 ^ (a - b)) p) (le_of_lt N),
      ap (λ (x : ℕ). x % (n * 2 ^ b)) (split m a b (h tt)) ∙ mod_scale (m * 2 ^ (a - b)) n (2 ^ b) p (pow_pos b),
    )
    go false h k = (
      m % (n * 2 ^ (b - a)),
      a,
      lt_of_le_of_lt (mod-le m (n * 2 ^ (b - a))) M,
      ap (λ (x : ℕ). m * 2 ^ a % x) (split n b a (le_of_lt (k tt))) ∙ mod_scale m (n * 2 ^ (b - a)) (2 ^ a) (mul-pos p (pow_pos (b - a))) (pow_pos a),
    )

-- A float below the top is below 2 ^ 2098 of the smallest ones.
pub under_all : (s : Bool) (m : ℕ) (e : ℤ) (t : T (fits binary64 (fin s m e))) → m * 2 ^ (places s m e t).0 < 2 ^ 2098
under_all s m e t =
    let x = places s m e t in
    lt_of_mul-lt-mul_right (down e) (lt_of_le_of_lt (le_of_eq (mul_assoc m (2 ^ x.0) (down e) ∙ ap (λ (z : ℕ). m * z) (sym x.1) ∙ sym (mul_assoc m (up e) (2 ^ 1074))))
    (lt_of_lt_of_le (mul-lt-mul_of_pos_right (under_top s m e t) (pow_pos 1074)) (le_of_eq (mul_right_comm (2 ^ 1024) (down e) (2 ^ 1074)))))

-- The remainder over the common denominator is the remainder in units.
pub rem_scaled : (s t : Bool) (m : ℕ) (e : ℤ) (n : ℕ) (d : ℤ) (fx : T (fits binary64 (fin s m e))) (fy : T (fits binary64 (fin t n d))) → 0 < n
    → m * up e * down d % (n * up d * down e) * 2 ^ 1074 ≡ m * 2 ^ (places s m e fx).0 % (n * 2 ^ (places t n d fy).0) * (down e * down d)
rem_scaled s t m e n d fx fy p =
    let C = down e * down d in
    let A = m * up e * down d in
    let B = n * up d * down e in
    let L = 2 ^ 1074 in
    let x = places s m e fx in
    let y = places t n d fy in
    let X = m * 2 ^ x.0 in
    let Y = n * 2 ^ y.0 in
    let ax : A * L ≡ X * C = unit m (up e) (down e) (down d) (2 ^ x.0) L x.1 in
    let by : B * L ≡ Y * C = unit n (up d) (down d) (down e) (2 ^ y.0) L y.1 ∙ ap (λ (z : ℕ). Y * z) (mul_comm (down d) (down e)) in
    let Cp : 0 < C = mul-pos (down_pos e) (down_pos d) in
    let Yp : 0 < Y = mul-pos p (pow_pos y.0) in
    let Bp : 0 < B = mul-pos (mul-pos p (up_pos d)) (down_pos e) in
    sym (mod_scale A B L Bp (pow_pos 1074)) ∙ ap (λ (z : ℕ). z % (B * L)) ax ∙ ap (λ (z : ℕ). X * C % z) by ∙ mod_scale X Y C Yp Cp
  where
    unit : (m u de dd k L : ℕ) → u * L ≡ k * de → m * u * dd * L ≡ m * k * (de * dd)
    unit m u de dd k L h = mul_right_comm (m * u) dd L ∙ ap (λ (z : ℕ). z * dd) (mul_assoc m u L ∙ ap (λ (z : ℕ). m * z) h ∙ sym (mul_assoc m k de)) ∙ mul_assoc (m * k) de dd

pub rem_exact : (s t : Bool) (m : ℕ) (e : ℤ) (n : ℕ) (d : ℤ) → T (fits binary64 (fin s m e)) → T (fits binary64 (fin t n d)) → 0 < n
    → HasValue (round binary64 s (m * up e * down d % (n * up d * down e)) (down e * down d)) s (m * up e * down d % (n * up d * down e)) (down e * down d)
rem_exact s t m e n d fx fy p =
    let C = down e * down d in
    let A = m * up e * down d in
    let B = n * up d * down e in
    let x = places s m e fx in
    let y = places t n d fy in
    let w = shape m n x.0 y.0 (small s m e fx) (small t n d fy) p in
    round_exact binary64 s (A % B) C w.0 w.1 (mul-pos (down_pos e) (down_pos d)) w.2 (lt_of_le_of_lt (le_trans (le_of_eq (sym w.3)) (mod-le (m * 2 ^ x.0) (n * 2 ^ y.0))) (under_all s m e fx))
    (rem_scaled s t m e n d fx fy p ∙ ap (λ (z : ℕ). z * C) w.3)

-- ---- the sum of a negative exact value and a larger positive one
neg_add : (x : Float) (r C : ℕ) (n : ℕ) (d : ℤ) (b : ℕ) → 0 < C → HasValue x true r C → n * up d * C ≡ b * down d → r < b
    → add binary64 x (fin false n d) ≡ round binary64 false (b - r) C
unfolding add sum
neg_add nan r C n d b Cp v h l = elim v [ ]
neg_add (inf _) r C n d b Cp v h l = elim v [ ]
neg_add (fin false m e) r C n d b Cp v h l = absurd (false≢true v.0)
neg_add (fin true m e) r C n d b Cp v h l =
    let p = m * up e * down d in
    let q = n * up d * down e in
    let c = down e * down d in
    let pC : p * C ≡ r * c = mul_right_comm (m * up e) (down d) C ∙ ap (λ (z : ℕ). z * down d) v.1 ∙ mul_assoc r (down e) (down d) in
    let qC : q * C ≡ b * c = mul_right_comm (n * up d) (down e) C ∙ ap (λ (z : ℕ). z * down e) h ∙ mul_right_comm b (down d) (down e) ∙ mul_assoc b (down e) (down d) in
    let cp : 0 < c = mul-pos (down_pos e) (down_pos d) in
    let pq : p < q = lt_of_mul-lt-mul_right C (lt_of_le_of_lt (le_of_eq pC) (lt_of_lt_of_le (mul-lt-mul_of_pos_right l cp) (le_of_eq (sym qC)))) in
    ap (λ (t : Bool). cond t (round binary64 false (q - p) c) (round binary64 (true && ltb q p) (p - q) c)) (lt-ltb p q pq)
    ∙ round_same binary64 false (q - p) c (b - r) C cp Cp
    (mul_comm (q - p) C ∙ mul-sub C q p ∙ ap (λ (z : ℕ). z - C * p) (mul_comm C q ∙ qC) ∙ ap (λ (z : ℕ). b * c - z) (mul_comm C p ∙ pC)
    ∙ ap (λ (z : ℕ). z - r * c) (mul_comm b c) ∙ ap (λ (z : ℕ). c * b - z) (mul_comm r c) ∙ sym (mul-sub c b r) ∙ mul_comm c (b - r))

-- ---- the sign of an exact value
value_below : (x : Float) (r C : ℕ) → 0 < C → 0 < r → HasValue x true r C → T (lt x nought)
unfolding lt
value_below nan r C Cp rp v = elim v [ ]
value_below (inf _) r C Cp rp v = elim v [ ]
value_below (fin false m e) r C Cp rp v = absurd (false≢true v.0)
value_below (fin true m e) r C Cp rp v = lt→ltb 0 (m * up e * 1 + 0 * 1 * down e) (pos_sum (m * up e) (0 * 1 * down e) (lib.Ieee.Positive.first_pos (m * up e) C (subst (λ (z : ℕ). 0 < z) (sym v.1) (mul-pos rp (down_pos e)))))
  where
    pos_sum : (a b : ℕ) → 0 < a → 0 < a * 1 + b
    pos_sum a b h = omega arith

value_not_below : (x : Float) (r C : ℕ) → HasValue x false r C → T (not (lt x nought))
value_not_below nan r C v = elim v [ ]
value_not_below (inf _) r C v = elim v [ ]
value_not_below (fin true m e) r C v = absurd (true≢false v.0)
value_not_below (fin false m e) r C v = not_T (lt (fin false m e) nought) (λ t. not_negative m e (is_true (lt (fin false m e) nought) t))

zero_round : (C : ℕ) → 0 < C → round binary64 true 0 C ≡ round binary64 true 0 1
zero_round C p = round_same binary64 true 0 C 0 1 p (zero-lt-suc 0) (zero-mul 1 ∙ sym (zero-mul C))

zero_not_below : T (not (lt (round binary64 true 0 1) nought))
unfolding lt round
zero_not_below = tt

-- ---- what `rem_euclid` does
abbrev pub prog : Float → Float → Float
prog x y = cond (lt (rem binary64 x y) nought) (add binary64 (rem binary64 x y) (abs_of y)) (rem binary64 x y)

cond_is : (b : Bool) (x y : Float) → T b → cond b x y ≡ x
cond_is true x y t = refl
cond_is false x y t = absurd t

pub cond_not : (b : Bool) (x y : Float) → T (not b) → cond b x y ≡ y
cond_not true x y t = absurd t
cond_not false x y t = refl

pub not_zero : (r : ℕ) → 0 < r → T (not (eqb r 0))
not_zero r h = not_T (eqb r 0) (λ t. no r h (eqb→eq r 0 t))
  where
    no : (r : ℕ) → 0 < r → r ≡ 0 → ⊥
    no r h e = omega arith

least_is : (s : Bool) (r b C : ℕ) (n : ℕ) (d : ℤ) → 0 < C → r < b → n * up d * C ≡ b * down d → HasValue (round binary64 s r C) s r C
    → cond (lt (round binary64 s r C) nought) (add binary64 (round binary64 s r C) (fin false n d)) (round binary64 s r C) ≡ least_rem s r b C
unfolding least_rem
least_is false r b C n d Cp l h v = cond_not (lt (round binary64 false r C) nought) _ (round binary64 false r C) (value_not_below (round binary64 false r C) r C v)
least_is true r b C n d Cp l h v = elim (eq-zero-or-pos r) [
  | inl z ↦
      subst (λ (k : ℕ). cond (lt (round binary64 true k C) nought) (add binary64 (round binary64 true k C) (fin false n d)) (round binary64 true k C) ≡ least_rem true k b C) (sym z)
      (subst (λ (x : Float). cond (lt x nought) (add binary64 x (fin false n d)) x ≡ round binary64 true 0 1) (sym (zero_round C Cp))
      (cond_not (lt (round binary64 true 0 1) nought) (add binary64 (round binary64 true 0 1) (fin false n d)) (round binary64 true 0 1) zero_not_below))
  | inr p ↦
      cond_is (lt (round binary64 true r C) nought) (add binary64 (round binary64 true r C) (fin false n d)) (round binary64 true r C) (value_below (round binary64 true r C) r C Cp p v)
      ∙ neg_add (round binary64 true r C) r C n d b Cp v h l
      ∙ sym (cond_not (eqb r 0) (round binary64 true 0 1) (round binary64 false (b - r) C) (not_zero r p))
]

zero_low : (e : ℤ) → T (not (lt (fin true 0 e) nought))
unfolding lt
zero_low e = not_T (ltb 0 (0 * up e * 1 + 0 * 1 * down e)) (λ t. no (up e) (down e) (lib.Dec.ltb→lt 0 (0 * up e * 1 + 0 * 1 * down e) t))
  where
    no : (u d : ℕ) → 0 < 0 * u * 1 + 0 * 1 * d → ⊥
    no u d h = omega (arith, zero-mul u, zero-mul d)

below_any : (m : ℕ) (e : ℤ) → T (lt (fin true (suc m) e) nought)
below_any m e = value_below (fin true (suc m) e) (suc m * up e) (down e) (down_pos e) (mul-pos (zero-lt-suc m) (up_pos e)) (refl, refl)

to_inf : (m : ℕ) (e : ℤ) → add binary64 (fin true m e) (inf false) ≡ inf false
unfolding add
to_inf m e = refl

whole_rem : (s : Bool) (m : ℕ) (e : ℤ) (t : Bool) (n : ℕ) (d : ℤ) → T (fits binary64 (fin s m e)) → T (fits binary64 (fin t (suc n) d))
    → (let R = round binary64 s (m * up e * down d % (suc n * up d * down e)) (down e * down d) in
    let r = cond (eqb (suc n) 0) nan R in
    cond (lt r nought) (add binary64 r (fin false (suc n) d)) r ≡ cond (eqb (suc n) 0) nan (least_rem s (m * up e * down d % (suc n * up d * down e)) (suc n * up d * down e) (down e * down d)))
whole_rem s m e t n d fx fy =
    let A = m * up e * down d in
    let B = suc n * up d * down e in
    let C = down e * down d in
    let R = round binary64 s (A % B) C in
    let z = not_zero (suc n) (zero-lt-suc n) in
    ap (λ (r : Float). cond (lt r nought) (add binary64 r (fin false (suc n) d)) r) (cond_not (eqb (suc n) 0) nan R z)
    ∙ least_is s (A % B) B C (suc n) d (mul-pos (down_pos e) (down_pos d)) (mod-lt A (mul-pos (mul-pos (zero-lt-suc n) (up_pos d)) (down_pos e))) (sym (mul_assoc (suc n * up d) (down e) (down d)))
    (rem_exact s t m e (suc n) d fx fy (zero-lt-suc n))
    ∙ sym (cond_not (eqb (suc n) 0) nan (least_rem s (A % B) B C) z)

pub rem_is : (x y : Float) → T (fits binary64 x) → T (fits binary64 y) → prog x y ≡ rem_euclid_of x y
unfolding rem abs_of rem_euclid_of
rem_is nan y fx fy = unfold lt in refl
rem_is (inf s) y fx fy = unfold lt in refl
rem_is (fin true m e) nan fx fy = unfold lt in refl
rem_is (fin false m e) nan fx fy = unfold lt in refl
rem_is (fin false m e) (inf t) fx fy = cond_not (lt (fin false m e) nought) _ (fin false m e) (value_not_below (fin false m e) (m * up e) (down e) (refl, refl))
rem_is (fin true zero e) (inf t) fx fy = cond_not (lt (fin true 0 e) nought) _ (fin true 0 e) (zero_low e)
rem_is (fin true (suc m) e) (inf t) fx fy =
    cond_is (lt (fin true (suc m) e) nought) (add binary64 (fin true (suc m) e) (inf false)) (fin true (suc m) e) (below_any m e)
    ∙ to_inf (suc m) e ∙ sym (cond_not (eqb (suc m) 0) (fin true (suc m) e) (inf false) (not_zero (suc m) (zero-lt-suc m)))
rem_is (fin true m e) (fin t zero d) fx fy = unfold lt in refl
rem_is (fin false m e) (fin t zero d) fx fy = unfold lt in refl
rem_is (fin true m e) (fin t (suc n) d) fx fy = whole_rem true m e t n d fx fy
rem_is (fin false m e) (fin t (suc n) d) fx fy = whole_rem false m e t n d fx fy
