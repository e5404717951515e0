-- The root cut to a whole number, and the key to its rounding. Assumes nothing.
use Rattle.std.proofs.Common.{◌≡◌, ℕ, zero, suc, ◌+◌, ◌-◌, ◌*◌, ◌/◌, ◌%◌, ◌^◌, ◌<◌, ◌≤◌, Bool, true, false, cond, not, T, leb, ◌⊎◌, sym, refl, ap, ◌∙◌, subst, inl, inr, zero-le, le_trans, le_of_eq, lt_of_lt_of_le, lt_of_le_of_lt, le_of_lt, lt_irrefl, mul-le-mul_right, mod-lt, zero-lt-suc, mul_assoc, mul_comm, div-lt_iff_lt-mul, add-mul, add-sub_of_le, mul-le-mul, le_antisymm, mul-lt-mul_of_pos_right, mul-pos, one-mul, pow-suc, lt_of_not-le, div-add-mod', mul-one, mul-add, not-le_of_lt, mul-div_cancel, mul_left_comm, arith, lit<, lit≤, eqb→eq, leb→le, pow_pos, pow_mono}
use Prim.Native.Nat.{compare, Ordering}
use native.Mathlib.Nat.{mul-mul-mul_comm, pow-succ', div-eq_of_lt-le}
use lib.Dec.{is_le, compare_is_eq, nleb→lt}
use lib.Ieee.{binary64, size, nearest, units, round}
use lib.Ieee.Digits.{size-lt, size-le}
use lib.Ieee.Fits.{round_is}
use lib.Ieee.Nearest.{closest, closest_same}
use Rattle.num.specs.Root.{RootOf, bump, root_fuel, root_down}

twice : (r : ℕ) → 2 * r * (2 * r) ≡ 4 * (r * r)
twice r = mul-mul-mul_comm 2 r 2 r

next : (r : ℕ) → (2 * r + 1 + 1) * (2 * r + 1 + 1) ≡ 4 * ((r + 1) * (r + 1))
next r =
    let e : 2 * r + 1 + 1 ≡ 2 * (r + 1) = omega arith in
    ap (λ (x : ℕ). x * x) e ∙ twice (r + 1)

low_part : (a n : ℕ) → a ≤ n / 4 → 4 * a ≤ n
low_part a n h = omega arith

high_part : (a n : ℕ) → n / 4 < a → n < 4 * a
high_part a n h = omega arith

bump_is : (n r : ℕ) → r * r ≤ n → n < (r + 1 + 1) * (r + 1 + 1) → RootOf n (bump n r)
bump_is n r h k = go (leb ((r + 1) * (r + 1)) n) (leb→le ((r + 1) * (r + 1)) n) (nleb→lt ((r + 1) * (r + 1)) n)
  where
    go : (b : Bool) → (T b → (r + 1) * (r + 1) ≤ n) → (T (not b) → n < (r + 1) * (r + 1)) → RootOf n (cond b (r + 1) r)
    go true p q = (p tt, k)
    go false p q = (h, q tt)

quarter : (n k : ℕ) → n < 4 ^ suc k → n / 4 < 4 ^ k
quarter n k h = (div-lt_iff_lt-mul (zero-lt-suc 3)).1 (subst (λ (x : ℕ). n < x) (pow-suc 4 k) h)

fuel_is : (k n : ℕ) → n < 4 ^ k → RootOf n (root_fuel k n)
unfolding root_fuel
fuel_is zero n h = (zero-le, h)
fuel_is (suc k) n h =
    let i = fuel_is k (n / 4) (quarter n k h) in
    let r = root_fuel k (n / 4) in
    bump_is n (2 * r) (le_trans (le_of_eq (twice r)) (low_part (r * r) n i.0)) (lt_of_lt_of_le (high_part ((r + 1) * (r + 1)) n i.1) (le_of_eq (sym (next r))))

four_pow : (k : ℕ) → 2 ^ k ≤ 4 ^ k
four_pow zero = lit≤ tt
four_pow (suc k) = le_trans (le_of_eq (pow-succ' 2 k)) (le_trans (mul-le-mul (lit≤ tt) (four_pow k)) (le_of_eq (sym (pow-succ' 4 k))))

pub root_is : (n : ℕ) → RootOf n (root_down n)
unfolding root_down
root_is n = fuel_is (size n) n (lt_of_lt_of_le (size-lt n) (four_pow (size n)))

-- ---- squares keep the order
pub root_below : (a b : ℕ) → a * a < b * b → a < b
root_below a b h = lt_of_not-le (λ (g : b ≤ a). not-le_of_lt h (mul-le-mul g g))

pub suc_le : (a b : ℕ) → a < b + 1 → a ≤ b
suc_le a b h = omega arith

-- ---- the root of N * 4 ^ u, with w = 2 ^ u
pub square : (a w : ℕ) → a * w * (a * w) ≡ a * a * (w * w)
square a w = mul-mul-mul_comm a w a w

module _ (N s w S : ℕ) (W : 0 < w) (r : RootOf N s) (R : RootOf (N * (w * w)) S) where
  pub scaled_low : s * w ≤ S
  scaled_low = suc_le (s * w) S (root_below (s * w) (S + 1) (lt_of_le_of_lt (le_trans (le_of_eq (square s w)) (mul-le-mul_right (w * w) r.0)) R.1))

  pub scaled_high : S < (s + 1) * w
  scaled_high = root_below S ((s + 1) * w) (lt_of_le_of_lt R.0 (lt_of_lt_of_le (mul-lt-mul_of_pos_right r.1 (mul-pos W W)) (le_of_eq (sym (square (s + 1) w)))))

odd_square : (h : ℕ) → (2 * h + 1) * (2 * h + 1) ≡ 2 * (2 * (h * h) + 2 * h) + 1
odd_square h =
    let a : (2 * h + 1) * (2 * h + 1) ≡ 2 * h * (2 * h + 1) + (2 * h + 1) = add-mul (2 * h) 1 (2 * h + 1) ∙ ap (λ (x : ℕ). 2 * h * (2 * h + 1) + x) (one-mul (2 * h + 1)) in
    let b : 2 * h * (2 * h + 1) ≡ 2 * h * (2 * h) + 2 * h = mul-add (2 * h) (2 * h) 1 ∙ ap (λ (x : ℕ). 2 * h * (2 * h) + x) (mul-one (2 * h)) in
    let c : 2 * h * (2 * h) ≡ 4 * (h * h) = twice h in
    omega arith

pub not_square : (N h a : ℕ) → (2 * h + 1) * (2 * h + 1) ≤ 2 * N → (2 * h + 1) * (2 * h + 1) + 1 ≤ 2 * N
not_square N h a l = omega (arith, odd_square h)

pub plus_one : (x : ℕ) → (x + 1) * (x + 1) ≡ x * x + 2 * x + 1
plus_one x =
    let a : (x + 1) * (x + 1) ≡ x * (x + 1) + (x + 1) = add-mul x 1 (x + 1) ∙ ap (λ (y : ℕ). x * (x + 1) + y) (one-mul (x + 1)) in
    let b : x * (x + 1) ≡ x * x + x = mul-add x x 1 ∙ ap (λ (y : ℕ). x * x + y) (mul-one x) in
    omega arith

pub le_of_squares : (a b : ℕ) → a * a ≤ b * b → a ≤ b
le_of_squares a b h = suc_le a b (root_below a (b + 1) (lt_of_le_of_lt h (omega (arith, plus_one b))))

-- an odd root of an even number is never exact, and what is cut off shows once there are digits enough
pub odd_more : (N h w S : ℕ) → 2 * ((2 * h + 1) * w) + 1 ≤ w * w → RootOf (2 * N) (2 * h + 1) → RootOf (2 * N * (w * w)) S → (2 * h + 1) * w < S
odd_more N h w S room r R =
    let s = 2 * h + 1 in
    let a : s * w * (s * w) ≡ s * s * (w * w) = square s w in
    let b : (s * s + 1) * (w * w) ≤ 2 * N * (w * w) = mul-le-mul_right (w * w) (not_square N h 0 r.0) in
    let c : (s * s + 1) * (w * w) ≡ s * s * (w * w) + w * w = add-mul (s * s) 1 (w * w) ∙ ap (λ (x : ℕ). s * s * (w * w) + x) (one-mul (w * w)) in
    let d : (s * w + 1) * (s * w + 1) ≡ s * w * (s * w) + 2 * (s * w) + 1 = plus_one (s * w) in
    let e : (s * w + 1) * (s * w + 1) < (S + 1) * (S + 1) = lt_of_le_of_lt (omega arith) R.1 in
    less (s * w) S (root_below (s * w + 1) (S + 1) e)
  where
    less : (a b : ℕ) → a + 1 < b + 1 → a < b
    less a b h = omega arith

-- ---- what `compare` says
compare_lt : (a b : ℕ) → a < b → compare a b ≡ Ordering.lt
compare_lt a b h = go (compare a b) (nleb→lt a b) (eqb→eq a b)
  where
    go : (o : Ordering) → (T (not (is_le o)) → b < a) → (T (compare_is_eq o) → a ≡ b) → o ≡ Ordering.lt
    go Ordering.lt k e = refl
    go Ordering.eq k e = absurd (lt_irrefl b (subst (λ (x : ℕ). x < b) (e tt) h))
    go Ordering.gt k e = absurd (not-le_of_lt (k tt) (le_of_lt h))

compare_gt : (a b : ℕ) → b < a → compare a b ≡ Ordering.gt
compare_gt a b h = go (compare a b) (leb→le a b)
  where
    go : (o : Ordering) → (T (is_le o) → a ≤ b) → o ≡ Ordering.gt
    go Ordering.lt k = absurd (not-le_of_lt h (k tt))
    go Ordering.eq k = absurd (not-le_of_lt h (k tt))
    go Ordering.gt k = refl

-- ---- S / 2w to the nearest whole number, for S between s * w and (s + 1) * w: (s + 1) / 2
whole_part : (S w h : ℕ) → h * (2 * w) ≤ S → S < (h + 1) * (2 * w) → (S / (2 * w) ≡ h) × (h * (2 * w) + S % (2 * w) ≡ S)
whole_part S w h a b =
    let q : S / (2 * w) ≡ h = div-eq_of_lt-le (2 * w) a b in
    (q, ap (λ (x : ℕ). x * (2 * w) + S % (2 * w)) (sym q) ∙ div-add-mod' S (2 * w))

two_times : (h w : ℕ) → h * (2 * w) ≡ 2 * h * w
two_times h w = simp (mul_assoc, mul_left_comm)

closest_even : (S w h : ℕ) → 2 * h * w ≤ S → S < (2 * h + 1) * w → closest S (2 * w) ≡ h
closest_even S w h a b =
    let e = two_times h w in
    let f : (2 * h + 1) * w ≡ 2 * h * w + w = add-mul (2 * h) 1 w ∙ ap (λ (x : ℕ). 2 * h * w + x) (one-mul w) in
    let g : (h + 1) * (2 * w) ≡ h * (2 * w) + 2 * w = add-mul h 1 (2 * w) ∙ ap (λ (x : ℕ). h * (2 * w) + x) (one-mul (2 * w)) in
    let p = whole_part S w h (omega arith) (omega arith) in
    let i : h * (2 * w) + S % (2 * w) ≡ S = p.1 in
    ap (λ (x : ℕ). nearest x (compare (S % (2 * w) * 2) (2 * w))) p.0 ∙ ap (nearest h) (compare_lt (S % (2 * w) * 2) (2 * w) (omega arith))

closest_odd : (S w h : ℕ) → (2 * h + 1) * w < S → S < (2 * h + 1 + 1) * w → closest S (2 * w) ≡ suc h
closest_odd S w h a b =
    let e = two_times h w in
    let f : (2 * h + 1) * w ≡ 2 * h * w + w = add-mul (2 * h) 1 w ∙ ap (λ (x : ℕ). 2 * h * w + x) (one-mul w) in
    let f2 : (2 * h + 1 + 1) * w ≡ (2 * h + 1) * w + w = add-mul (2 * h + 1) 1 w ∙ ap (λ (x : ℕ). (2 * h + 1) * w + x) (one-mul w) in
    let g : (h + 1) * (2 * w) ≡ h * (2 * w) + 2 * w = add-mul h 1 (2 * w) ∙ ap (λ (x : ℕ). h * (2 * w) + x) (one-mul (2 * w)) in
    let p = whole_part S w h (omega arith) (omega arith) in
    let i : h * (2 * w) + S % (2 * w) ≡ S = p.1 in
    ap (λ (x : ℕ). nearest x (compare (S % (2 * w) * 2) (2 * w))) p.0 ∙ ap (nearest h) (compare_gt (S % (2 * w) * 2) (2 * w) (omega arith))

pub halves : (s : ℕ) → (s % 2 ≡ 0) ⊎ (s % 2 ≡ 1)
halves s = go (s % 2) refl
  where
    go : (r : ℕ) → s % 2 ≡ r → (s % 2 ≡ 0) ⊎ (s % 2 ≡ 1)
    go zero e = inl e
    go (suc r) e = inr (omega arith)

pub even_is : (s : ℕ) → s % 2 ≡ 0 → (s ≡ 2 * (s / 2)) × ((s + 1) / 2 ≡ s / 2)
even_is s e = (omega arith, omega arith)

pub odd_is : (s : ℕ) → s % 2 ≡ 1 → (s ≡ 2 * (s / 2) + 1) × ((s + 1) / 2 ≡ suc (s / 2))
odd_is s e = (omega arith, omega arith)

-- THE KEY: for an even number 2 * N with the cut root s, and w with room, the cut root S of 2 * N * w * w rounds to (s + 1) / 2 units of 2 * w
pub key : (N s w S : ℕ) → 0 < w → 2 * (s * w) + 1 ≤ w * w → RootOf (2 * N) s → RootOf (2 * N * (w * w)) S → closest S (2 * w) ≡ (s + 1) / 2
key N s w S W room r R = elim (halves s) [
  | inl e ↦
      let k = even_is s e in
      closest_even S w (s / 2) (subst (λ (x : ℕ). x * w ≤ S) k.0 (scaled_low (2 * N) s w S W r R)) (subst (λ (x : ℕ). S < (x + 1) * w) k.0 (scaled_high (2 * N) s w S W r R)) ∙ sym k.1
  | inr e ↦
      let k = odd_is s e in
      closest_odd S w (s / 2)
      (odd_more N (s / 2) w S (subst (λ (x : ℕ). 2 * (x * w) + 1 ≤ w * w) k.0 room) (subst (λ (x : ℕ). RootOf (2 * N) x) k.0 r) R)
      (subst (λ (x : ℕ). S < (x + 1) * w) k.0 (scaled_high (2 * N) s w S W r R)) ∙ sym k.1
]

-- ---- from the key to `round`
pub size_is : (n z : ℕ) → 2 ^ z ≤ n → n < 2 ^ suc z → size n ≡ suc z
size_is n z a b = le_antisymm (size-le n (suc z) b) (lt_of_not-le (λ (g : size n ≤ z). not-le_of_lt (lt_of_lt_of_le (size-lt n) (pow_mono g)) a))

-- S with 54 + u digits, handed to `round` in units of the smallest float
pub round_root : (S u q : ℕ) → 2 ^ (53 + u) ≤ S → S < 2 ^ (54 + u) → closest S (2 * 2 ^ u) ≡ q → round binary64 false S (2 ^ 1074) ≡ units binary64 false q (suc u)
round_root S u q a b e =
    let n = S * 2 ^ 1074 in
    let d : n / 2 ^ 1074 ≡ S = mul-div_cancel S (pow_pos 1074) in
    let z : size S ≡ suc (53 + u) = size_is S (53 + u) a (subst (λ (x : ℕ). S < 2 ^ x) (shape u) b) in
    let k : size (n / 2 ^ 1074) - 53 ≡ suc u = ap (λ (x : ℕ). size x - 53) d ∙ ap (λ (x : ℕ). x - 53) z ∙ drop u in
    round_is binary64 false S (2 ^ 1074)
    ∙ ap (λ (x : ℕ). units binary64 false (closest n (2 ^ 1074 * 2 ^ x)) x) k
    ∙ ap (λ (x : ℕ). units binary64 false x (suc u))
    (closest_same n (2 ^ 1074 * 2 ^ suc u) S (2 * 2 ^ u) (mul-pos (pow_pos 1074) (pow_pos (suc u))) (mul-pos (zero-lt-suc 1) (pow_pos u)) (cross (pow-succ' 2 u)) ∙ e)
  where
    shape : (u : ℕ) → 54 + u ≡ suc (53 + u)
    shape u = omega arith

    drop : (u : ℕ) → suc (53 + u) - 53 ≡ suc u
    drop u = omega arith

    cross : 2 ^ suc u ≡ 2 * 2 ^ u → S * 2 ^ 1074 * (2 * 2 ^ u) ≡ S * (2 ^ 1074 * 2 ^ suc u)
    cross h = ap (λ (x : ℕ). S * 2 ^ 1074 * x) (sym h) ∙ mul_assoc S (2 ^ 1074) (2 ^ suc u)

-- ---- for `root54`
pub small_square : (c : ℕ) → c ≤ 134217727 → c * c < 2 ^ 64
small_square c h = lt_of_le_of_lt (mul-le-mul h h) (lit< tt)

pub square_pos : (c m : ℕ) → m < c * c → 0 < c
square_pos zero m h = absurd (lt_irrefl 0 (lt_of_le_of_lt zero-le h))
square_pos (suc c) m h = zero-lt-suc c

pub next_small : (c m : ℕ) → (c + 1) * (c + 1) ≤ m → m < 18014398509481984 → c + 1 ≤ 134217727
next_small c m h k = suc_le (c + 1) 134217727 (root_below (c + 1) 134217728 (lt_of_le_of_lt h (lt_of_lt_of_le k (lit≤ tt))))

-- ---- for `root108`: the root of m * 2 ^ 54 from the root a of m and one division by 2 * a
part : (m a : ℕ) → RootOf m a → m - a * a ≤ 2 * a
part m a r = omega (arith, plus_one a)

module _ (m a : ℕ) (lo : 4503599627370496 ≤ m) (hi : m < 18014398509481984) (r : RootOf m a) where
  pub a_low : 67108864 ≤ a
  a_low = suc_le 67108864 a (root_below 67108864 (a + 1) (lt_of_le_of_lt (le_trans (lit≤ tt) lo) r.1))

  pub a_high : a ≤ 134217727
  a_high = suc_le a 134217727 (root_below a 134217728 (lt_of_le_of_lt r.0 (lt_of_lt_of_le hi (lit≤ tt))))

  pub d_high : (m - a * a) * 134217728 ≤ 134217728 * (2 * a)
  d_high = le_trans (mul-le-mul_right 134217728 (part m a r)) (le_of_eq (mul_comm (2 * a) 134217728))

  pub q_high : (m - a * a) * 134217728 / (2 * a) ≤ 134217728
  q_high =
      let A = a_low in
      let d = d_high in
      suc_le ((m - a * a) * 134217728 / (2 * a)) 134217728 ((div-lt_iff_lt-mul {k = 2 * a} (omega arith)).1 (omega arith))

  v_high : (m - a * a) * 134217728 % (2 * a) < 2 * a
  v_high = let A = a_low in mod-lt ((m - a * a) * 134217728) (omega arith)

  pub d_fits : (m - a * a) * 134217728 < 2 ^ 64
  d_fits = let A = a_high in let d = d_high in omega arith

  pub q_square : (m - a * a) * 134217728 / (2 * a) * ((m - a * a) * 134217728 / (2 * a)) ≤ 18014398509481984
  q_square = mul-le-mul q_high q_high

  pub v_fits : (m - a * a) * 134217728 % (2 * a) * 134217728 < 2 ^ 64
  v_fits = let A = a_high in let v = v_high in omega arith

  -- with A = a * 2 ^ 27
  sum_of : (q v : ℕ) → q * (2 * a) + v ≡ (m - a * a) * 134217728 → m * 2 ^ 54 ≡ a * 134217728 * (a * 134217728) + 2 * (a * 134217728 * q) + v * 134217728
  sum_of q v e =
      let b : ℕ = 134217728 in
      let t = m - a * a in
      let i : a * a + t ≡ m = add-sub_of_le r.0 in
      let j : m * 2 ^ 54 ≡ a * a * 2 ^ 54 + t * 2 ^ 54 = ap (λ (x : ℕ). x * 2 ^ 54) (sym i) ∙ add-mul (a * a) t (2 ^ 54) in
      let k : a * b * (a * b) ≡ a * a * 2 ^ 54 = mul-mul-mul_comm a b a b in
      let l : t * 2 ^ 54 ≡ t * b * b = sym (mul_assoc t b b) in
      let n : (q * (2 * a) + v) * b ≡ t * b * b = ap (λ (x : ℕ). x * b) e in
      let o : (q * (2 * a) + v) * b ≡ q * (2 * a) * b + v * b = add-mul (q * (2 * a)) v b in
      let p : q * (2 * a) * b ≡ 2 * (a * b * q) = turn q a b in
      omega arith
    where
      turn : (q a b : ℕ) → q * (2 * a) * b ≡ 2 * (a * b * q)
      turn q a b = simp (mul_assoc, mul_comm, mul_left_comm)

plus : (x y : ℕ) → (x + y) * (x + y) ≡ x * x + 2 * (x * y) + y * y
plus x y =
    let a : (x + y) * (x + y) ≡ x * (x + y) + y * (x + y) = add-mul x y (x + y) in
    let b : x * (x + y) ≡ x * x + x * y = mul-add x x y in
    let c : y * (x + y) ≡ y * x + y * y = mul-add y x y in
    let d : y * x ≡ x * y = mul_comm y x in
    omega arith

module _ (m a : ℕ) (lo : 4503599627370496 ≤ m) (hi : m < 18014398509481984) (r : RootOf m a) where
  div_is : (m - a * a) * 134217728 / (2 * a) * (2 * a) + (m - a * a) * 134217728 % (2 * a) ≡ (m - a * a) * 134217728
  div_is = div-add-mod' ((m - a * a) * 134217728) (2 * a)

  pub root_kept : (q v : ℕ) → q ≡ (m - a * a) * 134217728 / (2 * a) → v ≡ (m - a * a) * 134217728 % (2 * a) → q * q ≤ v * 134217728 → RootOf (m * 2 ^ 54) (a * 134217728 + q)
  root_kept q v eq ev h =
      let A = a * 134217728 in
      let n : m * 2 ^ 54 ≡ A * A + 2 * (A * q) + v * 134217728 = sum_of m a lo hi r q v (ap (λ (x : ℕ). x * (2 * a) + v) eq ∙ ap (λ (x : ℕ). (m - a * a) * 134217728 / (2 * a) * (2 * a) + x) ev ∙ div_is) in
      let s : (A + q) * (A + q) ≡ A * A + 2 * (A * q) + q * q = plus A q in
      let u : (A + q + 1) * (A + q + 1) ≡ (A + q) * (A + q) + 2 * (A + q) + 1 = plus_one (A + q) in
      let w : v < 2 * a = lt_of_le_of_lt (le_of_eq ev) (v_high m a lo hi r) in
      (omega arith, omega arith)

  pub root_less : (q v : ℕ) → q ≡ (m - a * a) * 134217728 / (2 * a) → v ≡ (m - a * a) * 134217728 % (2 * a) → v * 134217728 < q * q → (1 ≤ a * 134217728 + q) × RootOf (m * 2 ^ 54) (a * 134217728 + q - 1)
  root_less q v eq ev h =
      let A = a * 134217728 in
      let n : m * 2 ^ 54 ≡ A * A + 2 * (A * q) + v * 134217728 = sum_of m a lo hi r q v (ap (λ (x : ℕ). x * (2 * a) + v) eq ∙ ap (λ (x : ℕ). (m - a * a) * 134217728 / (2 * a) * (2 * a) + x) ev ∙ div_is) in
      let s : (A + q) * (A + q) ≡ A * A + 2 * (A * q) + q * q = plus A q in
      let l = a_low m a lo hi r in
      let z : 0 < q = square_pos q (v * 134217728) h in
      let g : q * q ≤ 18014398509481984 = subst (λ (x : ℕ). x * x ≤ 18014398509481984) (sym eq) (q_square m a lo hi r) in
      let k : A + q - 1 + 1 ≡ A + q = omega arith in
      let u : (A + q - 1 + 1) * (A + q - 1 + 1) ≡ (A + q - 1) * (A + q - 1) + 2 * (A + q - 1) + 1 = plus_one (A + q - 1) in
      let x : (A + q - 1 + 1) * (A + q - 1 + 1) ≡ (A + q) * (A + q) = ap (λ (y : ℕ). y * y) k in
      (omega arith, (omega arith, omega arith))
