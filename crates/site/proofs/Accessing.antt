-- Laws that the proofs cite: a product of two counts, and the infinity that the code makes.
-- Assumes nothing.
use mathlib.Core.Path.{◌≡◌, refl}
use mathlib.Core.Bool.{false}
use Prim.Native.Nat.{ℕ, ◌*◌, ◌^◌, ◌≤◌, ◌<◌}
use native.Mathlib.Nat.{mul-le-mul}
use native.Mathlib.Omega.{arith}
use lib.Ieee.{inf, div, of_bits}
use Rattle.num.specs.Ops.{◌⊘◌, zero_f, one_f}

-- the product of two counts fits a `usize`
pub product_fits : (a b : ℕ) → a < 2 ^ 32 → b < 2 ^ 32 → a * b < 2 ^ 64
product_fits a b h k =
    let p : a ≤ 4294967295 = omega arith in
    let q : b ≤ 4294967295 = omega arith in
    let m : a * b ≤ 4294967295 * 4294967295 = mul-le-mul p q in
    omega arith

-- 1.0 / 0.0
pub endless : one_f ⊘ zero_f ≡ inf false
unfolding div of_bits
endless = refl
