-- What "the float nearest to it" means (document 01, "The text program"), whatever computes it.
-- Definitions only.
use Rattle.std.specs.Prelude.{◌≡◌, ℕ, ◌+◌, ◌*◌, ◌^◌, ◌<◌, Bool, false, not, ◌&&◌, T, ℤ, ◌==◌, Float}
use Rattle.std.specs.Float.{fin, binary64}
use Rattle.std.specs.Float.Ieee.{fits}
use Rattle.num.specs.Root.{in_units}

-- r is nearer in size to a / b than any other float y: a / b lies on r's side of the middle (r + y) / 2 of the two.
-- In units of the smallest float a / b is a * 2 ^ 1074 / b. There is no tie, so that IEEE 754's choice of the even one is never used.
abbrev pub NearestTo : ℕ → ℕ → Float → Type 0
NearestTo a b r =
    (n : ℕ) (d : ℤ) → T (fits binary64 (fin false n d)) →
    (in_units (fin false n d) < in_units r → (in_units r + in_units (fin false n d)) * b < 2 * (a * 2 ^ 1074))
    × (in_units r < in_units (fin false n d) → 2 * (a * 2 ^ 1074) < (in_units r + in_units (fin false n d)) * b)

-- r is the float nearest to the decimal a / b with the sign s: a float of the format, with that sign, zero having none, and nearest in size
pub record Nearest (s : Bool) (a b : ℕ) (r : Float) : Type 0 where
  pub digits : ℕ
  pub exponent : ℤ
  pub is : r ≡ fin (s && not (a == 0)) digits exponent
  pub of_format : T (fits binary64 r)
  pub nearest : NearestTo a b r
