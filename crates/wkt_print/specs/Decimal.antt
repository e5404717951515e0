-- How a float is printed (document 01, "The text program"): with `places` decimals, the exact value rounded to nearest and halves to even,
-- never a signed zero. Definitions only.
use Rattle.std.specs.Prelude.{◌≡◌, Bool, not, ◌&&◌, cond, List, [], ◌∷◌, ◌++◌, ℕ, zero, suc, ◌+◌, ◌*◌, ◌/◌, ◌%◌, ◌^◌, ltb, eqb, length, Float}
use Rattle.std.proofs.lemmas.List.Edits.{sets}
use Rattle.std.specs.Float.{nan, inf, fin, binary64}
use Rattle.std.specs.Float.Ieee.{up, down, lt, of_bits}
use Rattle.std.specs.Float.Ieee.Nearest.{closest}
use Rattle.wkt.specs.Words.{minus_if, point_byte}

-- Sizes below 2 ^ 25 have a decimal here. (A coordinate is at most 1,000,000, so an outline's is about 2,000,000 at most.)
abbrev pub too_large : ℕ
too_large = 33554432

-- The size of x times 10 ^ places, as the nearest whole number, a half going to the even one. What has no decimal here counts as 0: a size of
-- 2 ^ 25 or more, an infinity, a NaN.
unfoldable pub scaled_of : ℕ → Float → ℕ
scaled_of places nan = 0
scaled_of places (inf s) = 0
scaled_of places (fin s m e) = cond (ltb (m * up e) (too_large * down e)) (closest (m * up e * 10 ^ places) (down e)) 0

-- n in k decimal digits, 0 being 48
abbrev pub fixed : ℕ → ℕ → List ℕ
fixed zero n = []
fixed (suc k) n = (48 + n / 10 ^ k) ∷ fixed k (n % 10 ^ k)

-- how many decimal digits n has, 0 having one: the first w, from w on, with n below 10 ^ w; f is how many are tried
abbrev pub width_from : ℕ → ℕ → ℕ → ℕ
width_from zero w n = w
width_from (suc f) w n = cond (ltb n (10 ^ w)) w (width_from f (suc w) n)

-- of a number below 10 ^ 10
abbrev pub width : ℕ → ℕ
width n = width_from 10 1 n

abbrev pub whole_text : ℕ → List ℕ
whole_text n = fixed (width n) n

-- the number q / 10 ^ places, with a minus where it is asked for and q is not 0
abbrev pub decimal_text : ℕ → Bool → ℕ → List ℕ
decimal_text places s q = minus_if (s && not (eqb q 0)) ++ (whole_text (q / 10 ^ places) ++ (point_byte ∷ fixed places (q % 10 ^ places)))

unfoldable pub shown : ℕ → Float → List ℕ
unfolding scaled_of lt of_bits
shown places x = decimal_text places (lt x (of_bits binary64 0)) (scaled_of places x)

-- ---- the promise of every printing function: the bytes t stand in the slice from `at` on, as many as there is room for, nothing else has changed,
-- and r is the place after them, counted on where there is no room
pub record Printed (out : List ℕ) (at : ℕ) (t : List ℕ) (out' : List ℕ) (r : ℕ) : Type 0 where
  pub text : out' ≡ sets out at t
  pub next : r ≡ at + length t
