-- What the functions of `num` answer, on every float: IEEE 754-2019's operations by exact values, Rust's by its library's pages.
-- A float is `nan`, an infinity, or `fin s m e`: m * 2 ^ e, negative where s is true; `up e / down e` is 2 ^ e as a fraction (the kit's `lib.Ieee`).
-- The records say what a floor and a ceiling are, whatever computes them. Definitions only.
use Rattle.std.specs.Prelude.{ℕ, ◌+◌, ◌-◌, ◌*◌, ◌/◌, ◌%◌, Bool, true, false, cond, not, T, ℤ, pos, ◌==◌, Float}
use Rattle.std.specs.Float.{nan, inf, fin, binary64}
use Rattle.std.specs.Float.Ieee.{up, down, round, lt, le, fits, is_nan}
use Rattle.std.specs.Float.Ieee.Exact.{HasValue}

-- the whole number that a / b, with the sign s, is rounded down to, without its sign: a negative number goes away from zero
abbrev pub down_to : Bool → ℕ → ℕ → ℕ
down_to false a b = a / b
down_to true a b = (a + (b - 1)) / b

-- IEEE 754's roundToIntegralTowardNegative: the largest whole number not above x, with the sign of x (so -0 stays -0)
unfoldable pub floor_of : Float → Float
unfolding round
floor_of nan = nan
floor_of (inf s) = inf s
floor_of (fin s m e) = round binary64 s (down_to s (m * up e) (down e)) 1

-- roundToIntegralTowardPositive
unfoldable pub ceil_of : Float → Float
unfolding round
ceil_of nan = nan
ceil_of (inf s) = inf s
ceil_of (fin s m e) = round binary64 s (down_to (not s) (m * up e) (down e)) 1

-- ---- what a floor and a ceiling are, whatever computes them. `le` compares exact values, also those that no format holds.
-- the whole number n, or -n where t is true
abbrev pub whole_number : Bool → ℕ → Float
whole_number t n = fin t n (pos 0)

-- r is a float, and exactly a whole number, with the sign of ±m * 2 ^ e (so -0 stays -0). Of the whole numbers that are not above ±m * 2 ^ e it is the largest.
pub record IsFloor (s : Bool) (m : ℕ) (e : ℤ) (r : Float) : Type 0 where
  pub size : ℕ
  pub exact : HasValue r s size 1
  pub of_format : T (fits binary64 r)
  pub not_above : T (le r (fin s m e))
  pub largest : (t : Bool) (n : ℕ) → T (le (whole_number t n) (fin s m e)) → T (le (whole_number t n) r)

-- r is a float, and exactly a whole number, with the sign of ±m * 2 ^ e. Of the whole numbers that are not below ±m * 2 ^ e it is the smallest.
pub record IsCeiling (s : Bool) (m : ℕ) (e : ℤ) (r : Float) : Type 0 where
  pub size : ℕ
  pub exact : HasValue r s size 1
  pub of_format : T (fits binary64 r)
  pub not_below : T (le (fin s m e) r)
  pub smallest : (t : Bool) (n : ℕ) → T (le (fin s m e) (whole_number t n)) → T (le r (whole_number t n))

unfoldable pub abs_of : Float → Float
abs_of nan = nan
abs_of (inf s) = inf false
abs_of (fin s m e) = fin false m e

-- ---- Rust's `min`, `max` and `clamp`: a NaN is passed over by the first two and kept by the third
unfoldable pub min_of : Float → Float → Float
unfolding lt is_nan
min_of x y = cond (lt y x) y (cond (is_nan x) y x)

unfoldable pub max_of : Float → Float → Float
unfolding lt is_nan
max_of x y = cond (lt x y) y (cond (is_nan x) y x)

unfoldable pub clamp_of : Float → Float → Float → Float
unfolding lt
clamp_of x lo hi = cond (lt x lo) lo (cond (lt hi x) hi x)

-- ±r / c, with r below b, made not negative by adding b / c
unfoldable pub least_rem : Bool → ℕ → ℕ → ℕ → Float
unfolding round
least_rem false r b c = round binary64 false r c
least_rem true r b c = cond (r == 0) (round binary64 true 0 1) (round binary64 false (b - r) c)

-- ---- Rust's `rem_euclid`: the least remainder that is not negative, rounded once; of a whole multiple, a zero with the sign of x
unfoldable pub rem_euclid_of : Float → Float → Float
unfolding least_rem
rem_euclid_of nan y = nan
rem_euclid_of (inf s) y = nan
rem_euclid_of (fin s m e) nan = nan
rem_euclid_of (fin false m e) (inf t) = fin false m e
rem_euclid_of (fin true m e) (inf t) = cond (m == 0) (fin true m e) (inf false)
rem_euclid_of (fin s m e) (fin t n d) = cond (n == 0) nan (least_rem s (m * up e * down d % (n * up d * down e)) (n * up d * down e) (down e * down d))
