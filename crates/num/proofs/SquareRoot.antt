-- THE ROOT IS A NEAREST FLOAT AND THE ONLY ONE: what `sqrt` answers for a positive finite float x is IEEE 754's squareRoot of x, correctly rounded.
-- (NaN, the infinities, the zeros and negative floats are cases of `sqrt_of` itself.) Assumes nothing.
use Rattle.std.proofs.Common.{◌≡◌, ℕ, suc, false, T, ℤ}
use lib.Ieee.{Float, fin, binary64, fits}
use Rattle.num.specs.Root.{sqrt_of, NearestRoot}
use Rattle.num.proofs.NearLaws.{sqrt_is_ieee, nearest_unique}

-- r is a float of the format, and nearer to the root of x than every other float that is not negative
pub record Nearest (x : Float) (r : Float) : Type 0 where
  pub digits : ℕ
  pub exponent : ℤ
  pub is : r ≡ fin false digits exponent
  pub of_format : T (fits binary64 (fin false digits exponent))
  pub nearest : NearestRoot x (fin false digits exponent)

pub root_nearest : (m : ℕ) (e : ℤ) → T (fits binary64 (fin false (suc m) e)) → Nearest (fin false (suc m) e) (sqrt_of (fin false (suc m) e))
root_nearest m e f =
    let r = sqrt_is_ieee m e f in
    record { digits = r.0; exponent = r.1; is = r.2; of_format = r.3; nearest = r.4 }

pub root_only : (x : Float) (a : ℕ) (g : ℤ) (n : ℕ) (d : ℤ) → T (fits binary64 (fin false a g)) → T (fits binary64 (fin false n d)) → NearestRoot x (fin false a g) → NearestRoot x (fin false n d) → fin false a g ≡ fin false n d
root_only = nearest_unique
