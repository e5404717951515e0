-- Worked texts: a minus, a zero without one, halves to even, six decimals, document 01's output line with six and with three decimals, an empty outline, two refusals.
-- Assumes nothing.
use Rattle.std.specs.Prelude.{◌≡◌, refl, true, false, List, [], ◌∷◌, ℕ, Float}
use Rattle.std.specs.Float.Ieee.{of_bits, round, lt}
use Rattle.std.specs.Float.{binary64}
use Rattle.wkt.specs.Words.{bytes}
use Rattle.wkt_print.specs.Decimal.{shown, scaled_of}
use Rattle.wkt_print.specs.Lines.{points_of, polygon_text, refused_text}

-- -0.1, -0.0004, 0.0625 and 0.1875 to three places, -2000000.1 to six
numbers : List (List ℕ)
unfolding shown scaled_of round lt of_bits
numbers = shown 3 (round binary64 true 1 10) ∷ shown 3 (round binary64 true 4 10000) ∷ shown 3 (round binary64 false 625 10000) ∷ shown 3 (round binary64 false 1875 10000) ∷ shown 6 (round binary64 true 20000001 10) ∷ []

numbers_are : numbers ≡ bytes "-0.100" ∷ bytes "0.000" ∷ bytes "0.062" ∷ bytes "0.188" ∷ bytes "-2000000.100000" ∷ []
unfolding numbers
numbers_are = refl

-- the outline of `POINT M (0 0 0.1)`: four points, two of whose zeros are not exact
outline : List Float
unfolding round
outline = round binary64 true 1 10 ∷ round binary64 true 0 1 ∷ round binary64 false 1 100000000000000000 ∷ round binary64 true 1 10 ∷ round binary64 false 1 10 ∷ round binary64 false 0 1 ∷ round binary64 false 0 1 ∷ round binary64 false 1 10 ∷ []

line : polygon_text 6 (points_of outline) ≡ bytes "POLYGON ((-0.100000 0.000000, 0.000000 -0.100000, 0.100000 0.000000, 0.000000 0.100000, -0.100000 0.000000))\n"
unfolding outline shown scaled_of round lt of_bits
line = refl

line_three : polygon_text 3 (points_of outline) ≡ bytes "POLYGON ((-0.100 0.000, 0.000 -0.100, 0.100 0.000, 0.000 0.100, -0.100 0.000))\n"
unfolding outline shown scaled_of round lt of_bits
line_three = refl

none : polygon_text 6 [] ≡ bytes "POLYGON EMPTY\n"
none = refl

refusals : refused_text 9 ∷ refused_text 11 ∷ [] ≡ bytes "REFUSED 9\n" ∷ bytes "REFUSED 11\n" ∷ []
refusals = refl
