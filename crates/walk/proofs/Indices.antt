-- A float's column or row, clamp_to to the grid: through a cast without a sign, as the code goes, and through the Rust's signed one. Cell numbers fit a `usize`.
-- Assumes nothing.
use mathlib.Core.Path.{◌≡◌, refl, sym, ◌∙◌}
use mathlib.Core.Logic.{⊎_elim}
use mathlib.Core.Bool.{true, false}
use Prim.Native.Nat.{ℕ, zero, suc, ◌+◌, ◌*◌, ◌/◌, ◌^◌, ◌≤◌, ◌<◌, min}
use native.Mathlib.Nat.{le_trans, le-min, min-eq_left, mul-le-mul_left}
use native.Mathlib.Omega.{arith}
use lib.IntN.{pos, neg_ℤ}
use lib.Ieee.{Float, nan, inf, fin, up, down, to_signed, to_unsigned}
use borrow.Author.Tests.{lt-ltb, le-ltb}
use Rattle.lists.proofs.Cases.{lt_or_le}
use Rattle.walk.specs.Clipping.{clamp_to}

-- a number that is not negative is clamp_to alike after either cast, the grid's last index being below both ends
same : (q last a b : ℕ) → last < a → a ≤ b → clamp_to (pos (min q a)) last ≡ clamp_to (pos (min q b)) last
same q last a b h l =
    ⊎_elim
    (λ w. simp (lt-ltb last (min q a) (le-min w h), lt-ltb last (min q b) (le-min w (le_trans h l))))
    (λ w. simp (min-eq_left {n = q} {m = a} (omega arith), min-eq_left {n = q} {m = b} (omega arith)))
    (lt_or_le last q)

none : (last : ℕ) → clamp_to (pos 0) last ≡ 0
none last = simp (le-ltb last 0 (omega arith))

below : (n last : ℕ) → clamp_to (neg_ℤ (pos n)) last ≡ 0
below zero last = none last
below (suc n) last = refl

either_cast : (x : Float) (last : ℕ) → last < 2 ^ 32 → clamp_to (to_signed 63 x) last ≡ clamp_to (pos (to_unsigned 64 x)) last
unfolding to_signed to_unsigned
either_cast nan last h = refl
either_cast (inf true) last h = below (2 ^ 63) last ∙ sym (none last)
either_cast (inf false) last h = simp (lt-ltb last 9223372036854775807 (omega arith), lt-ltb last 18446744073709551615 (omega arith))
either_cast (fin true m e) last h = below (min (m * up e / down e) (2 ^ 63)) last ∙ sym (none last)
either_cast (fin false m e) last h = same (m * up e / down e) last 9223372036854775807 18446744073709551615 (omega arith) (omega arith)

pub held_below : (x : Float) (last i : ℕ) → last < 2 ^ 32 → i ≡ to_unsigned 64 x → i < last → i ≡ clamp_to (to_signed 63 x) last
held_below x last i h e l = rw (either_cast x last h, ← e, le-ltb last i (omega arith))

above : (last i : ℕ) → last ≤ i → last ≡ clamp_to (pos i) last
above last i l = ⊎_elim (λ w. rw (lt-ltb last i w)) (λ w. rw (le-ltb last i w) (omega arith)) (lt_or_le last i)

pub held_above : (x : Float) (last i : ℕ) → last < 2 ^ 32 → i ≡ to_unsigned 64 x → last ≤ i → last ≡ clamp_to (to_signed 63 x) last
held_above x last i h e l = rw (either_cast x last h, ← e) (above last i l)

pub cell_fits : (a b c : ℕ) → a < 2 ^ 32 → b < 2 ^ 32 → c < 2 ^ 32 → a * b + c < 2 ^ 64
cell_fits a b c x y z = let l : a * b ≤ a * 4294967295 = mul-le-mul_left a (omega arith) in omega arith
