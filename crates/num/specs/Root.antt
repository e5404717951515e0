-- IEEE 754's squareRoot, correctly rounded.
use Rattle.std.specs.Prelude.{ℕ, zero, suc, ◌+◌, ◌*◌, ◌/◌, ◌^◌, ◌<◌, ◌≤◌, true, false, cond, T, ℤ, nat_le, Float}
use Rattle.std.specs.Float.{nan, inf, fin, binary64}
use Rattle.std.specs.Float.Ieee.{up, down, size, round, fits}

-- r is the root of n, cut to a whole number
abbrev pub RootOf : ℕ → ℕ → Type 0
RootOf n r = (r * r ≤ n) × (n < (r + 1) * (r + 1))

abbrev pub bump : ℕ → ℕ → ℕ
bump n r = cond (nat_le ((r + 1) * (r + 1)) n) (r + 1) r

unfoldable pub root_fuel : ℕ → ℕ → ℕ
root_fuel zero n = 0
root_fuel (suc k) n = bump n (2 * root_fuel k (n / 4))

-- the largest r with r * r ≤ n (`root_is` of proofs/RootLaws)
unfoldable pub root_down : ℕ → ℕ
unfolding root_fuel size
root_down n = root_fuel (size n) n

-- The root of x, cut after 1074 binary places and rounded to the nearest float, ties to even. (x * 4 ^ 1074 is a whole number.)
unfoldable pub sqrt_of : Float → Float
unfolding root_down round
sqrt_of nan = nan
sqrt_of (inf true) = nan
sqrt_of (inf false) = inf false
sqrt_of (fin s zero e) = fin s zero e
sqrt_of (fin true (suc m) e) = nan
sqrt_of (fin false (suc m) e) = round binary64 false (root_down (suc m * up e * 4 ^ 1074 / down e)) (2 ^ 1074)

-- the root of n * 2 ^ h / 2 ^ 1074, rounded
unfoldable pub root_at : ℕ → ℕ → Float
unfolding root_down round
root_at n h = round binary64 false (root_down (n * 2 ^ (h + 1074))) (2 ^ 1074)

-- ---- what a correctly rounded root is, whatever computes it
-- how many of the smallest float, 2 ^ -1074, the size of a finite float is: a whole number for every float of the format
abbrev pub in_units : Float → ℕ
in_units nan = 0
in_units (inf s) = 0
in_units (fin s m e) = m * up e * 2 ^ 1074 / down e

-- r is nearer to the root of x than any other float y that is not negative: the root lies on r's side of the middle (r + y) / 2 of the two.
-- In units, the root's square is in_units x * 2 ^ 1074, so (r + y) / 2 is below it where (r + y) * (r + y) < 4 * (in_units x * 2 ^ 1074).
-- There is no tie, so IEEE 754's choice of the even one at a tie is never used.
abbrev pub NearestRoot : Float → Float → Type 0
NearestRoot x r = (n : ℕ) (d : ℤ) → T (fits binary64 (fin false n d)) →
    (in_units (fin false n d) < in_units r → (in_units r + in_units (fin false n d)) * (in_units r + in_units (fin false n d)) < 4 * (in_units x * 2 ^ 1074))
    × (in_units r < in_units (fin false n d) → 4 * (in_units x * 2 ^ 1074) < (in_units r + in_units (fin false n d)) * (in_units r + in_units (fin false n d)))
