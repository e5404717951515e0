-- `sqrt_of` of a positive float is the float strictly nearest to the root. Assumes nothing.
use Rattle.std.proofs.Common.{◌≡◌, ℕ, zero, suc, ◌+◌, ◌-◌, ◌*◌, ◌/◌, ◌%◌, ◌^◌, ◌<◌, ◌≤◌, Bool, true, false, cond, not, T, ltb, leb, ℤ, sym, refl, ap, ◌∙◌, subst, inl, inr, zero-le, le_trans, le_of_eq, lt_of_lt_of_le, lt_of_le_of_lt, le_of_lt, lt_irrefl, mul-le-mul_right, mod-lt, zero-lt-suc, mul_assoc, mul_comm, add-mul, mul-le-mul, lt_of_mul-lt-mul_right, mul-lt-mul_of_pos_right, mul-pos, one-mul, lt_of_not-le, not-le_of_lt, mul-div_cancel, arith, ltb→lt, leb→le, nltb→le, pow_pos, pow_mono, pow-add}
use native.Mathlib.Nat.{mul-mul-mul_comm, pow-succ'}
use lib.Dec.{nleb→lt}
use lib.Ieee.{Float, binary64, fin, up, down, fits, to_bits, of_bits, size}
use lib.Ieee.Bits.{of_bits-to_bits}
use lib.Ieee.Fits.{down_pos, round-fits}
use lib.Ieee.Exact.{HasValue}
use Rattle.num.specs.Root.{RootOf, in_units, NearestRoot, root_down, root_at, sqrt_of}
use Rattle.num.proofs.Whole.{small}
use Rattle.num.proofs.RootLaws.{square, root_is, halves, even_is, odd_is, not_square}
use Rattle.num.proofs.RootBits as RB
use Rattle.num.proofs.RootBits.{root_value, moved, left_even, s_high, s_low, scale, twice_half}
use Rattle.num.proofs.RemLaws.{places}
use Rattle.num.proofs.SqrtLaws.{Read, read_at, root_by}

-- ---- floats in units
pub units_at : (s : Bool) (n : ℕ) (d : ℤ) (t : T (fits binary64 (fin s n d))) → in_units (fin s n d) ≡ n * 2 ^ (places s n d t).0
units_at s n d t =
    let p = places s n d t in
    ap (λ (x : ℕ). x / down d) (mul_assoc n (up d) (2 ^ 1074) ∙ ap (λ (x : ℕ). n * x) p.1 ∙ sym (mul_assoc n (2 ^ p.0) (down d))) ∙ mul-div_cancel (n * 2 ^ p.0) (down_pos d)

pub units_are : (s : Bool) (n : ℕ) (d : ℤ) → T (fits binary64 (fin s n d)) → (k : ℕ) × (in_units (fin s n d) ≡ n * 2 ^ k)
units_are s n d t = ((places s n d t).0, units_at s n d t)

pub units_of_value : (v : Float) (s : Bool) (a : ℕ) → HasValue v s a (2 ^ 1074) → in_units v ≡ a
units_of_value lib.Ieee.nan s a h = elim h [ ]
units_of_value (lib.Ieee.inf _) s a h = elim h [ ]
units_of_value (fin t m e) s a h = ap (λ (x : ℕ). x / down e) h.1 ∙ mul-div_cancel a (down_pos e)

-- ---- the floats at and above 2 ^ 53 * w are multiples of 2 * w, with w = 2 ^ u; those below are at most (2 ^ 53 - 1) * w
split : (n k u : ℕ) → u ≤ k → n * 2 ^ k ≡ n * 2 ^ (k - u) * 2 ^ u
split n k u l = ap (λ (x : ℕ). n * 2 ^ x) (sym (lib.Ieee.Digits.back k u l)) ∙ ap (λ (x : ℕ). n * x) (pow-add 2 (k - u) u) ∙ sym (mul_assoc n (2 ^ (k - u)) (2 ^ u))

pub coarse : (n k u : ℕ) → n < 2 ^ 53 → 2 ^ 53 * 2 ^ u ≤ n * 2 ^ k → (c : ℕ) × (n * 2 ^ k ≡ c * (2 * 2 ^ u))
coarse n k u N h = go (leb (suc u) k) (leb→le (suc u) k) (nleb→lt (suc u) k)
  where
    low : k < suc u → k ≤ u
    low h = omega arith

    go : (b : Bool) → (T b → suc u ≤ k) → (T (not b) → k < suc u) → (c : ℕ) × (n * 2 ^ k ≡ c * (2 * 2 ^ u))
    go true p q = (n * 2 ^ (k - suc u), split n k (suc u) (p tt) ∙ ap (λ (x : ℕ). n * 2 ^ (k - suc u) * x) (pow-succ' 2 u))
    go false p q = absurd (not-le_of_lt (lt_of_lt_of_le (mul-lt-mul_of_pos_right N (pow_pos k)) (native.Mathlib.Nat.mul-le-mul_left (2 ^ 53) (pow_mono (low (q tt))))) h)

pub fine : (n k u : ℕ) → n < 2 ^ 53 → n * 2 ^ k < 2 ^ 53 * 2 ^ u → n * 2 ^ k ≤ 9007199254740991 * 2 ^ u
fine n k u N h = go (leb u k) (leb→le u k) (nleb→lt u k)
  where
    pred : (c : ℕ) → c < 2 ^ 53 → c ≤ 9007199254740991
    pred c h = omega arith

    go : (b : Bool) → (T b → u ≤ k) → (T (not b) → k < u) → n * 2 ^ k ≤ 9007199254740991 * 2 ^ u
    go true p q =
        let e = split n k u (p tt) in
        le_trans (le_of_eq e) (mul-le-mul_right (2 ^ u) (pred (n * 2 ^ (k - u)) (lt_of_mul-lt-mul_right (2 ^ u) (lt_of_le_of_lt (le_of_eq (sym e)) h))))
    go false p q = mul-le-mul (pred n N) (pow_mono (le_of_lt (q tt)))

-- ---- next to R = 2 q w there is no float nearer than 2 w above, and below none above (s - 1) w
above : (n k u q : ℕ) → n < 2 ^ 53 → 2 ^ 53 ≤ 2 * q → 2 * q * 2 ^ u < n * 2 ^ k → (2 * q + 2) * 2 ^ u ≤ n * 2 ^ k
above n k u q N l h =
    let w = 2 ^ u in
    let c = coarse n k u N (le_trans (mul-le-mul_right w l) (le_of_lt h)) in
    let e : 2 * q * w ≡ q * (2 * w) = flip q w in
    let g : q < c.0 = lt_of_mul-lt-mul_right (2 * w) (lt_of_le_of_lt (le_of_eq (sym e)) (lt_of_lt_of_le h (le_of_eq c.1))) in
    le_trans (le_of_eq (two q w)) (le_trans (mul-le-mul_right (2 * w) g) (le_of_eq (sym c.1)))
  where
    flip : (q w : ℕ) → 2 * q * w ≡ q * (2 * w)
    flip q w = ap (λ (x : ℕ). x * w) (mul_comm 2 q) ∙ mul_assoc q 2 w

    two : (q w : ℕ) → (2 * q + 2) * w ≡ suc q * (2 * w)
    two q w =
        let f : 2 * q + 2 ≡ 2 * suc q = omega arith in
        ap (λ (x : ℕ). x * w) f ∙ flip (suc q) w

below : (n k u q s : ℕ) → n < 2 ^ 53 → 2 ^ 53 ≤ s → 2 * q ≤ s + 1 → n * 2 ^ k < 2 * q * 2 ^ u → n * 2 ^ k ≤ (s - 1) * 2 ^ u
below n k u q s N l t h = go (ltb (n * 2 ^ k) (2 ^ 53 * 2 ^ u)) (ltb→lt (n * 2 ^ k) (2 ^ 53 * 2 ^ u)) (nltb→le (n * 2 ^ k) (2 ^ 53 * 2 ^ u))
  where
    flip : (q w : ℕ) → 2 * q * w ≡ q * (2 * w)
    flip q w = ap (λ (x : ℕ). x * w) (mul_comm 2 q) ∙ mul_assoc q 2 w

    less : (c : ℕ) → c < q → 2 * c ≤ s - 1
    less c h = omega arith

    first : 9007199254740991 ≤ s - 1
    first = omega arith

    go : (b : Bool) → (T b → n * 2 ^ k < 2 ^ 53 * 2 ^ u) → (T (not b) → 2 ^ 53 * 2 ^ u ≤ n * 2 ^ k) → n * 2 ^ k ≤ (s - 1) * 2 ^ u
    go true p r = le_trans (fine n k u N (p tt)) (mul-le-mul_right (2 ^ u) first)
    go false p r =
        let c = coarse n k u N (r tt) in
        let g : c.0 < q = lt_of_mul-lt-mul_right (2 * 2 ^ u) (lt_of_le_of_lt (le_of_eq (sym c.1)) (lt_of_lt_of_le h (le_of_eq (flip q (2 ^ u))))) in
        le_trans (le_of_eq (c.1 ∙ sym (flip c.0 (2 ^ u)))) (mul-le-mul_right (2 ^ u) (less c.0 g))

-- ---- the two sides
square_lt : (a b : ℕ) → a < b → a * a < b * b
square_lt a b h = lt_of_le_of_lt (mul-le-mul (native.Mathlib.Nat.le_refl a) (le_of_lt h)) (mul-lt-mul_of_pos_right h (lt_of_le_of_lt zero-le h))

four_squares : (a w : ℕ) → 2 * (a * w) * (2 * (a * w)) ≡ 4 * (a * a * (w * w))
four_squares a w = mul-mul-mul_comm 2 (a * w) 2 (a * w) ∙ ap (λ (x : ℕ). 4 * x) (square a w)

half_of : (s : ℕ) → (s ≤ 2 * ((s + 1) / 2)) × (2 * ((s + 1) / 2) ≤ s + 1)
half_of s = (omega arith, omega arith)

module _ (N s w Y : ℕ) (W : 0 < w) (r : RootOf (2 * N) s) (big : 2 ^ 53 ≤ s) where
  less_s : Y ≤ (s - 1) * w → 2 * ((s + 1) / 2) * w + Y ≤ 2 * ((s + 1) / 2) * w + s * w - w
  less_s h =
      let a : (s - 1) * w + w ≡ s * w = ap (λ (x : ℕ). (s - 1) * w + x) (sym (one-mul w)) ∙ sym (add-mul (s - 1) 1 w) ∙ ap (λ (x : ℕ). x * w) (back s (le_trans (lib.Dec.lit≤ tt) big)) in
      omega arith
    where
      back : (s : ℕ) → 1 ≤ s → s - 1 + 1 ≡ s
      back s h = omega arith

  pub near_below : Y ≤ (s - 1) * w → (2 * ((s + 1) / 2) * w + Y) * (2 * ((s + 1) / 2) * w + Y) < 4 * (2 * N * (w * w))
  near_below h = elim (halves s) [
    | inl e ↦
        let k = even_is s e in
        let z : 2 * ((s + 1) / 2) ≡ s = ap (λ (x : ℕ). 2 * x) k.1 ∙ sym k.0 in
        let a : 2 * ((s + 1) / 2) * w ≡ s * w = ap (λ (x : ℕ). x * w) z in
        let l = less_s h in
        lt_of_lt_of_le (square_lt (2 * ((s + 1) / 2) * w + Y) (2 * (s * w)) (small_sum l a))
        (le_trans (le_of_eq (four_squares s w)) (native.Mathlib.Nat.mul-le-mul_left 4 (mul-le-mul_right (w * w) r.0)))
    | inr e ↦
        let k = odd_is s e in
        let z : 2 * ((s + 1) / 2) ≡ s + 1 = ap (λ (x : ℕ). 2 * x) k.1 ∙ step (s / 2) ∙ ap (λ (x : ℕ). x + 1) (sym k.0) in
        let a : 2 * ((s + 1) / 2) * w ≡ s * w + w = ap (λ (x : ℕ). x * w) z ∙ add-mul s 1 w ∙ ap (λ (x : ℕ). s * w + x) (one-mul w) in
        let l = less_s h in
        let b : 2 * ((s + 1) / 2) * w + Y ≤ 2 * (s * w) = full_sum l a in
        let c : s * s + 1 ≤ 2 * N = subst (λ (x : ℕ). x * x + 1 ≤ 2 * N) (sym k.0) (not_square N (s / 2) 0 (subst (λ (x : ℕ). x * x ≤ 2 * N) k.0 r.0)) in
        lt_of_le_of_lt (mul-le-mul b b) (lt_of_le_of_lt (le_of_eq (four_squares s w)) (four_lt (mul-lt-mul_of_pos_right (strict c) (mul-pos W W))))
  ]
    where
      small_sum : 2 * ((s + 1) / 2) * w + Y ≤ 2 * ((s + 1) / 2) * w + s * w - w → 2 * ((s + 1) / 2) * w ≡ s * w → 2 * ((s + 1) / 2) * w + Y < 2 * (s * w)
      small_sum l a = let p = sw in omega arith
        where
          sw : w ≤ s * w
          sw = le_trans (le_of_eq (sym (one-mul w))) (mul-le-mul_right w (le_trans (lib.Dec.lit≤ tt) big))

      full_sum : 2 * ((s + 1) / 2) * w + Y ≤ 2 * ((s + 1) / 2) * w + s * w - w → 2 * ((s + 1) / 2) * w ≡ s * w + w → 2 * ((s + 1) / 2) * w + Y ≤ 2 * (s * w)
      full_sum l a = omega arith

      step : (k : ℕ) → 2 * suc k ≡ 2 * k + 1 + 1
      step k = omega arith

      strict : s * s + 1 ≤ 2 * N → s * s < 2 * N
      strict h = omega arith

      four_lt : {a b : ℕ} → a < b → 4 * a < 4 * b
      four_lt h = omega arith

  pub near_above : (2 * ((s + 1) / 2) + 2) * w ≤ Y → 4 * (2 * N * (w * w)) < (2 * ((s + 1) / 2) * w + Y) * (2 * ((s + 1) / 2) * w + Y)
  near_above h =
      let a : (2 * ((s + 1) / 2) + 2) * w ≡ 2 * ((s + 1) / 2) * w + 2 * w = add-mul (2 * ((s + 1) / 2)) 2 w in
      let b : s * w ≤ 2 * ((s + 1) / 2) * w = mul-le-mul_right w (half_of s).0 in
      let c : (s + 1) * w ≡ s * w + w = add-mul s 1 w ∙ ap (λ (x : ℕ). s * w + x) (one-mul w) in
      let d : 2 * ((s + 1) * w) ≤ 2 * ((s + 1) / 2) * w + Y = omega arith in
      lt_of_lt_of_le (four_lt (mul-lt-mul_of_pos_right r.1 (mul-pos W W))) (le_trans (le_of_eq (sym (four_squares (s + 1) w))) (mul-le-mul d d))
    where
      four_lt : {a b : ℕ} → a < b → 4 * a < 4 * b
      four_lt h = omega arith

-- ---- THE THEOREM: for digits n and h
pub nearest_at : (n h : ℕ) → 0 < n → n < 9007199254740992 → h ≤ 2046 → (x : Float) → in_units x ≡ n * 2 ^ h → NearestRoot x (root_at n h)
nearest_at n h a b c x ux y d fy =
    let p = RB.places n h in
    let u = (h + 1020 - p) / 2 in
    let M = n * 2 ^ p * 2 ^ 54 in
    let s = root_down M in
    let r : RootOf M s = root_is M in
    let N = n * 2 ^ p * 2 ^ 53 in
    let r' : RootOf (2 * N) s = subst (λ (z : ℕ). RootOf z s) (sym (twice_half (n * 2 ^ p))) r in
    let few = (moved n h a b).few in
    let e = (left_even n h a b).1 in
    let v = root_value n p h u s e (enough p few) (capped p few) (s_high n h s a b c r) (s_low n h s a b c r) r in
    let R : in_units (root_at n h) ≡ 2 * ((s + 1) / 2) * 2 ^ u = units_of_value (root_at n h) false ((s + 1) / 2 * 2 ^ suc u) v ∙ ap (λ (z : ℕ). (s + 1) / 2 * z) (pow-succ' 2 u) ∙ sym (mul_assoc ((s + 1) / 2) 2 (2 ^ u)) ∙ ap (λ (z : ℕ). z * 2 ^ u) (mul_comm ((s + 1) / 2) 2) in
    let X : in_units x * 2 ^ 1074 ≡ 2 * N * (2 ^ u * 2 ^ u) = ap (λ (z : ℕ). z * 2 ^ 1074) ux ∙ mul_assoc n (2 ^ h) (2 ^ 1074) ∙ ap (λ (z : ℕ). n * z) (sym (pow-add 2 h 1074)) ∙ scale n p h u e in
    let k = units_are false y d fy in
    let sl = s_low n h s a b c r in
    finish s u N (in_units (root_at n h)) (in_units (fin false y d)) (in_units x * 2 ^ 1074) y k.0 R k.1 X r' sl (small false y d fy)
  where
    enough : (p : ℕ) → p ≤ 53 → 55 ≤ (h + 1020 - p) / 2
    enough p l = omega arith

    capped : (p : ℕ) → p ≤ 53 → (h + 1020 - p) / 2 ≤ 2000
    capped p l = omega arith

    finish : (s u N R Y X y k : ℕ) → R ≡ 2 * ((s + 1) / 2) * 2 ^ u → Y ≡ y * 2 ^ k → X ≡ 2 * N * (2 ^ u * 2 ^ u) → RootOf (2 * N) s → 9007199254740992 ≤ s → y < 2 ^ 53
        → (Y < R → (R + Y) * (R + Y) < 4 * X) × (R < Y → 4 * X < (R + Y) * (R + Y))
    finish s u N R Y X y k eR eY eX r sl ys =
        let q = (s + 1) / 2 in
        let big : 2 ^ 53 ≤ s = sl in
        let hs = half_of s in (
          (λ l. subst (λ (z : ℕ). (z + Y) * (z + Y) < 4 * X) (sym eR) (subst (λ (z : ℕ). (2 * q * 2 ^ u + Y) * (2 * q * 2 ^ u + Y) < 4 * z) (sym eX)
              (near_below N s (2 ^ u) Y (pow_pos u) r big (le_trans (le_of_eq eY) (below y k u q s ys big hs.1 (lt_of_le_of_lt (le_of_eq (sym eY)) (lt_of_lt_of_le l (le_of_eq eR)))))))),
          (λ l. subst (λ (z : ℕ). 4 * X < (z + Y) * (z + Y)) (sym eR) (subst (λ (z : ℕ). 4 * z < (2 * q * 2 ^ u + Y) * (2 * q * 2 ^ u + Y)) (sym eX)
              (near_above N s (2 ^ u) Y (pow_pos u) r big (le_trans (above y k u q ys (le_trans big hs.0) (lt_of_le_of_lt (le_of_eq (sym eR)) (lt_of_lt_of_le l (le_of_eq eY)))) (le_of_eq (sym eY)))))),
        )

by_digits : (m : ℕ) (e : ℤ) (n h : ℕ) → n < 9007199254740992 → h ≤ 2046 → HasValue (fin false (suc m) e) false (n * 2 ^ h) (2 ^ 1074) → NearestRoot (fin false (suc m) e) (sqrt_of (fin false (suc m) e))
by_digits m e n h l k v =
    let y = root_by m e n h v in
    subst (λ (r : Float). NearestRoot (fin false (suc m) e) r) (sym y.1) (nearest_at n h y.0 l k (fin false (suc m) e) (units_of_value (fin false (suc m) e) false (n * 2 ^ h) v))

-- a float is its size and its sign: equal sizes in units, equal bits
pub same_bits : (s : Bool) (a : ℕ) (g : ℤ) (n : ℕ) (d : ℤ) → in_units (fin s a g) ≡ in_units (fin s n d) → to_bits binary64 (fin s a g) ≡ to_bits binary64 (fin s n d)
unfolding to_bits
same_bits s a g n d e = ap (λ (z : ℕ). cond s 9223372036854775808 0 + (size z - 53) * 4503599627370496 + z / 2 ^ (size z - 53)) e

-- and no second float is
pub nearest_unique : (x : Float) (a : ℕ) (g : ℤ) (n : ℕ) (d : ℤ) → T (fits binary64 (fin false a g)) → T (fits binary64 (fin false n d)) → NearestRoot x (fin false a g) → NearestRoot x (fin false n d) → fin false a g ≡ fin false n d
nearest_unique x a g n d f k p q =
    let A = in_units (fin false a g) in
    let B = in_units (fin false n d) in
    let same : A ≡ B = native.Mathlib.Nat.le_antisymm (no_more A B (4 * (in_units x * 2 ^ 1074)) (λ h. (p n d k).0 h) (λ h. (q a g f).1 h)) (no_more B A (4 * (in_units x * 2 ^ 1074)) (λ h. (q a g f).0 h) (λ h. (p n d k).1 h)) in
    sym (of_bits-to_bits binary64 (fin false a g) f) ∙ ap (of_bits binary64) (same_bits false a g n d same) ∙ of_bits-to_bits binary64 (fin false n d) k
  where
    turn : (a b : ℕ) → (a + b) * (a + b) ≡ (b + a) * (b + a)
    turn a b = ap (λ (z : ℕ). z * z) (native.Mathlib.Nat.add_comm a b)

    no_more : (A B X : ℕ) → (B < A → (A + B) * (A + B) < X) → (B < A → X < (B + A) * (B + A)) → A ≤ B
    no_more A B X p q = le (lt_not (λ h. lt_irrefl X (native.Mathlib.Nat.lt_trans (q h) (lt_of_le_of_lt (le_of_eq (turn B A)) (p h)))))
      where
        lt_not : (B < A → ⊥) → A < suc B
        lt_not f = lt_of_not-le f

        le : A < suc B → A ≤ B
        le h = omega arith

-- ---- all of it: the result is a float of the format, not negative, strictly nearest, and the only such one
value_at : (n h : ℕ) → 0 < n → n < 9007199254740992 → h ≤ 2046 → (a : ℕ) × HasValue (root_at n h) false a (2 ^ 1074)
value_at n h a b c =
    let p = RB.places n h in
    let u = (h + 1020 - p) / 2 in
    let s = root_down (n * 2 ^ p * 2 ^ 54) in
    let r = root_is (n * 2 ^ p * 2 ^ 54) in
    let few = (moved n h a b).few in
    ((s + 1) / 2 * 2 ^ suc u, root_value n p h u s (left_even n h a b).1 (enough p few) (capped p few) (s_high n h s a b c r) (s_low n h s a b c r) r)
  where
    enough : (p : ℕ) → p ≤ 53 → 55 ≤ (h + 1020 - p) / 2
    enough p l = omega arith

    capped : (p : ℕ) → p ≤ 53 → (h + 1020 - p) / 2 ≤ 2000
    capped p l = omega arith

positive_is : (v : Float) (a c : ℕ) → HasValue v false a c → (m : ℕ) × (e : ℤ) × (v ≡ fin false m e)
positive_is lib.Ieee.nan a c h = elim h [ ]
positive_is (lib.Ieee.inf _) a c h = elim h [ ]
positive_is (fin s m e) a c h = (m, e, λ i. fin (h.0 i) m e)

abbrev pub Rooted : ℕ → ℤ → Type 0
Rooted m e = (a : ℕ) × (g : ℤ) × (sqrt_of (fin false (suc m) e) ≡ fin false a g) × T (fits binary64 (fin false a g)) × NearestRoot (fin false (suc m) e) (fin false a g)

sqrt_fits : (m : ℕ) (e : ℤ) → T (fits binary64 (sqrt_of (fin false (suc m) e)))
unfolding sqrt_of
sqrt_fits m e = round-fits binary64 false (root_down (suc m * up e * 4 ^ 1074 / down e)) (2 ^ 1074)

all_of : (m : ℕ) (e : ℤ) (n h : ℕ) → n < 9007199254740992 → h ≤ 2046 → HasValue (fin false (suc m) e) false (n * 2 ^ h) (2 ^ 1074) → Rooted m e
all_of m e n h l k v =
    let y = root_by m e n h v in
    let w = value_at n h y.0 l k in
    let f = positive_is (root_at n h) w.0 (2 ^ 1074) w.1 in
    let q : sqrt_of (fin false (suc m) e) ≡ fin false f.0 f.1 = y.1 ∙ f.2 in
    (f.0, f.1, q, subst (λ (z : Float). T (fits binary64 z)) q (sqrt_fits m e), subst (λ (z : Float). NearestRoot (fin false (suc m) e) z) q (by_digits m e n h l k v))

pub sqrt_is_ieee : (m : ℕ) (e : ℤ) → T (fits binary64 (fin false (suc m) e)) → Rooted m e
sqrt_is_ieee m e f = go (b / 4503599627370496) (b % 4503599627370496) (mod-lt b (zero-lt-suc 4503599627370495)) (read_at (fin false (suc m) e) f m e refl)
  where
    b : ℕ
    b = to_bits binary64 (fin false (suc m) e)

    less : (t : ℕ) → t < 4503599627370496 → t < 9007199254740992
    less t h = omega arith

    less' : (t : ℕ) → t < 4503599627370496 → t + 4503599627370496 < 9007199254740992
    less' t h = omega arith

    up' : (g : ℕ) → g ≤ 2045 → g ≤ 2046
    up' g h = omega arith

    go : (x t : ℕ) → t < 4503599627370496 → Read (fin false (suc m) e) x t → Rooted m e
    go zero t l r = all_of m e t 0 (less t l) zero-le r
    go (suc g) t l r = all_of m e (t + 4503599627370496) g (less' t l) (up' g r.1) r.0
