-- THE REMAINDER IS EXACT WHERE RUST'S `%` IS: of a float that is not negative, `rem_euclid` is the exact remainder, with no rounding;
-- of a negative one it is the exact least remainder that is not negative, rounded once. Assumes nothing.
use Rattle.std.proofs.Common.{◌≡◌, ℕ, suc, ◌-◌, ◌*◌, ◌%◌, Bool, true, false, T, ℤ, zero-lt-suc, arith, ne_eqb}
use lib.Ieee.{fin, binary64, up, down, round, fits}
use lib.Ieee.Exact.{HasValue}
use Rattle.num.specs.Num.{rem_euclid_of, least_rem}
use Rattle.num.proofs.RemLaws.{rem_exact}

-- x is m * 2 ^ e and y is ± n * 2 ^ d. Over the common denominator `down e * down d` they are the whole numbers `over m e d` and `over n d e`.
abbrev pub over : ℕ → ℤ → ℤ → ℕ
over m e d = m * up e * down d

some : (n : ℕ) → suc n ≡ 0 → ⊥
some n e = omega arith

pub remainder_exact : (m : ℕ) (e : ℤ) (t : Bool) (n : ℕ) (d : ℤ) → T (fits binary64 (fin false m e)) → T (fits binary64 (fin t (suc n) d))
    → HasValue (rem_euclid_of (fin false m e) (fin t (suc n) d)) false (over m e d % over (suc n) d e) (down e * down d)
unfolding rem_euclid_of least_rem
remainder_exact m e t n d f g = rw (ne_eqb (suc n) 0 (some n)) (rem_exact false t m e (suc n) d f g (zero-lt-suc n))

pub remainder_rounded : (m : ℕ) (e : ℤ) (t : Bool) (n : ℕ) (d : ℤ) → (over m e d % over (suc n) d e ≡ 0 → ⊥)
    → rem_euclid_of (fin true m e) (fin t (suc n) d) ≡ round binary64 false (over (suc n) d e - over m e d % over (suc n) d e) (down e * down d)
unfolding rem_euclid_of least_rem
remainder_rounded m e t n d h = rw (ne_eqb (suc n) 0 (some n), ne_eqb (over m e d % over (suc n) d e) 0 h)
