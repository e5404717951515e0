-- How many digits a number has, and its digits one by one.
-- Assumes nothing.
use mathlib.Core.Path.{◌≡◌, refl, sym, ap, ◌∙◌, subst}
use mathlib.Core.Bool.{Bool, true, false, cond}
use mathlib.Core.List.{List, [], ◌∷◌, ◌++◌}
use Prim.Native.Nat.{ℕ, zero, suc, ◌+◌, ◌-◌, ◌*◌, ◌/◌, ◌%◌, ◌^◌, ◌≤◌, ◌<◌}
use native.Mathlib.Nat.{pow-suc, mul_comm, div-one, div-div-eq-div-mul, mod-lt, div-lt_iff_lt-mul, lt_of_lt_of_le, lt_of_not-le, lt_irrefl, le_of_eq}
use native.Mathlib.Numerals.{add-one}
use native.Mathlib.Omega.{arith}
use lib.Arith.{mod-mul}
use lib.ListN.{length}
use lib.Dec.{ltb}
use borrow.Author.Tests.{lt-ltb, le-ltb, ltb-false}
use Rattle.wkt.proofs.Numerals.{ten_le}
use Rattle.wkt_print.specs.Decimal.{fixed, width_from, width}

pub ten_pos : (j : ℕ) → 0 < 10 ^ j
ten_pos j = ten_le 0 j (omega arith)

-- ---- width
pub width_few : (w n : ℕ) → 10 ^ w ≤ n → n < 10000000000 → w < 10
width_few w n h g = lt_of_not-le (λ (b : 10 ≤ w). out (ten_le 10 w b))
  where
    out : 10000000000 ≤ 10 ^ w → ⊥
    out p = omega arith

pub width_next : (w n : ℕ) → w < 10 → 10 ^ w ≤ n → width_from (11 - w) w n ≡ width_from (11 - (w + 1)) (w + 1) n
width_next w n h g =
    let e : 11 - w ≡ suc (11 - (w + 1)) = omega arith in
    ap (λ (x : ℕ). width_from x w n) e ∙ ap (λ (b : Bool). cond b w (width_from (11 - (w + 1)) (suc w) n)) (le-ltb n (10 ^ w) g) ∙ ap (λ (x : ℕ). width_from (11 - (w + 1)) x n) (sym (add-one w))

pub width_end : (w n : ℕ) → w ≤ 10 → n < 10 ^ w → width_from (11 - w) w n ≡ w
width_end w n h g =
    let e : 11 - w ≡ suc (10 - w) = omega arith in
    ap (λ (x : ℕ). width_from x w n) e ∙ ap (λ (b : Bool). cond b w (width_from (10 - w) (suc w) n)) (lt-ltb n (10 ^ w) g)

-- a number below 10 ^ w has at most w digits
width_from_lem : (f v w n : ℕ) → v ≤ w → n < 10 ^ w → width_from f v n ≤ w
width_from_lem zero v w n h g = h
width_from_lem (suc f) v w n h g = go (ltb n (10 ^ v)) refl (λ l. width_from_lem f (suc v) w n l g)
  where
    less : 10 ^ v ≤ n → v < w
    less p = lt_of_not-le (λ (b : w ≤ v). lt_irrefl n (lt_of_lt_of_le (lt_of_lt_of_le g (ten_le w v b)) p))

    go : (b : Bool) → ltb n (10 ^ v) ≡ b → (suc v ≤ w → width_from f (suc v) n ≤ w) → cond b v (width_from f (suc v) n) ≤ w
    go true e ih = h
    go false e ih = ih (less (ltb-false n (10 ^ v) e))

pub width_le : (w n : ℕ) → 1 ≤ w → n < 10 ^ w → width n ≤ w
width_le w n h g = width_from_lem 10 1 w n h g

-- ---- digits
pub digit_low : (j m : ℕ) → 0 < j → m < 10 ^ j → m / 10 ^ (j - 1) < 10
digit_low j m h g =
    let e : j ≡ suc (j - 1) = omega arith in
    (div-lt_iff_lt-mul {k = 10 ^ (j - 1)} (ten_pos (j - 1))).1 (lt_of_lt_of_le (subst (λ (x : ℕ). m < 10 ^ x) e g) (le_of_eq (pow-suc 10 (j - 1) ∙ mul_comm (10 ^ (j - 1)) 10)))

-- the last digit stands behind those of a tenth
pub fixed_last : (j m : ℕ) → m < 10 ^ suc j → fixed (suc j) m ≡ fixed j (m / 10) ++ ((48 + m % 10) ∷ [])
fixed_last zero m h =
    let e : m / 10 ^ 0 ≡ m % 10 = div-one m ∙ omega arith in
    ap (λ (x : ℕ). (48 + x) ∷ []) e
fixed_last (suc j) m h =
    let x = m % 10 ^ suc j in
    let p : 10 ^ suc j ≡ 10 ^ j * 10 = pow-suc 10 j in
    let s : x ≡ m / 10 % 10 ^ j * 10 + m % 10 = ap (λ (z : ℕ). m % z) p ∙ mod-mul m (ten_pos j) (omega arith) in
    let t : x / 10 ≡ m / 10 % 10 ^ j = omega arith in
    let u : x % 10 ≡ m % 10 = omega arith in
    let d : m / 10 ^ suc j ≡ m / 10 / 10 ^ j = ap (λ (z : ℕ). m / z) (p ∙ mul_comm (10 ^ j) 10) ∙ sym (div-div-eq-div-mul m 10 (10 ^ j)) in
    ap (λ (z : ℕ). (48 + z) ∷ fixed (suc j) x) d
    ∙ ap (λ (l : List ℕ). (48 + m / 10 / 10 ^ j) ∷ l)
    (fixed_last j x (mod-lt m (ten_pos (suc j))) ∙ ap (λ (z : ℕ). fixed j z ++ ((48 + x % 10) ∷ [])) t ∙ ap (λ (z : ℕ). fixed j (m / 10 % 10 ^ j) ++ ((48 + z) ∷ [])) u)

pub length_fixed : (k n : ℕ) → length (fixed k n) ≡ k
length_fixed zero n = refl
length_fixed (suc k) n = ap suc (length_fixed k (n % 10 ^ k))
