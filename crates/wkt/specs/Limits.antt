-- The limits of document 01, "The text program", as document 02's Q-7 has them, each named once. The grammar and its laws take them as parameters.
-- Definitions only.
use Rattle.std.specs.Prelude.{ℕ}

-- a number: 1 to 7 digits, optionally a point and 1 to 6 digits; before Q-7, 1 to 3
abbrev pub whole_digits : ℕ
whole_digits = 7

abbrev pub part_digits : ℕ
part_digits = 6

abbrev pub former_part_digits : ℕ
former_part_digits = 3

-- a ring: at least four points with the closing one
abbrev pub least_ring : ℕ
least_ring = 4

-- more bytes are 9; more polygons or points are 2
abbrev pub max_bytes : ℕ
max_bytes = 16384

abbrev pub max_polygons : ℕ
max_polygons = 64

abbrev pub max_points : ℕ
max_points = 512
