-- HOW LONG A PRINTED TEXT IS AT MOST: a number, a polygon of n points, a refusal. A caller proves with it that its lent output suffices.
-- And where a number is printed exactly: `exact`.
-- Assumes nothing.
use mathlib.Core.Path.{◌≡◌, ap}
use mathlib.Core.Bool.{Bool, true, false, not, ◌&&◌, cond}
use mathlib.Core.List.{List, [], ◌∷◌, ◌++◌}
use Prim.Native.Nat.{ℕ, suc, ◌+◌, ◌*◌, ◌/◌, ◌%◌, ◌^◌, ◌≤◌, ◌<◌, zero-le}
use native.Mathlib.Nat.{suc-mul, mul-le-mul, le_trans, le_of_eq}
use native.Mathlib.Omega.{arith}
use lib.IntN.{ℤ}
use lib.ListN.{length, length-append}
use lib.Dec.{eqb}
use borrow.Author.Tests.{lt-ltb}
use lib.Ieee.{Float, fin, up, down, lt, of_bits, binary64}
use lib.Ieee.Fits.{down_pos}
use lib.Ieee.Nearest.{closest}
use Rattle.wkt.specs.Words.{minus_if, comma, ring_end}
use Rattle.wkt.specs.Grammar.{Point, point}
use Rattle.wkt_print.specs.Decimal.{scaled_of, fixed, whole_text, decimal_text, shown, too_large}
use Rattle.wkt_print.specs.Lines.{points_of, point_text, list_text, polygon_text, refused_text}
use Rattle.wkt_print.proofs.Bits.{closest_under, scaled_bound, whole_bound}
use Rattle.wkt_print.proofs.Widths.{width_le, length_fixed}

-- ---- a number
pub minus_few : (b : Bool) → length (minus_if b) ≤ 1
minus_few true = omega arith
minus_few false = omega arith

pub whole_few : (w n : ℕ) → 1 ≤ w → n < 10 ^ w → length (whole_text n) ≤ w
whole_few w n h g = le_trans (le_of_eq (length_fixed _ n)) (width_le w n h g)

decimal_few : (places : ℕ) (s : Bool) (q w : ℕ) → 1 ≤ w → q / 10 ^ places < 10 ^ w → length (decimal_text places s q) ≤ 2 + w + places
decimal_few places s q w h g =
    let A = minus_if (s && not (eqb q 0)) in
    let B = whole_text (q / 10 ^ places) in
    let C = fixed places (q % 10 ^ places) in
    omega (arith, minus_few (s && not (eqb q 0)), whole_few w (q / 10 ^ places) h g, length_fixed places (q % 10 ^ places), length-append A (B ++ (46 ∷ C)), length-append B (46 ∷ C))

-- the digits before the point, as the code has them
pub whole_low : (places : ℕ) (x : Float) (q p : ℕ) → q ≡ scaled_of places x → p ≡ 10 ^ places → q / p < 33554433
whole_low places x q p e f = rw (e, f) (whole_bound too_large places (scaled_of places x) (scaled_bound places x))

-- every float: a minus, 8 digits, the point and the decimals
pub number_length : (places : ℕ) (x : Float) → length (shown places x) ≤ 10 + places
unfolding shown
number_length places x =
    let h = whole_bound too_large places (scaled_of places x) (scaled_bound places x) in
    decimal_few places (lt x (of_bits binary64 0)) (scaled_of places x) 8 (omega arith) (omega arith)

-- ---- where the exact value is printed
pub exact : (places : ℕ) (s : Bool) (m : ℕ) (e : ℤ) → m * up e < too_large * down e → scaled_of places (fin s m e) ≡ closest (m * up e * 10 ^ places) (down e)
unfolding scaled_of
exact places s m e h = ap (λ (b : Bool). cond b (closest (m * up e * 10 ^ places) (down e)) 0) (lt-ltb (m * up e) (too_large * down e) h)

-- a size of at most 2,000,000: a minus, 7 digits, the point and the decimals
pub small_length : (places : ℕ) (s : Bool) (m : ℕ) (e : ℤ) → m * up e ≤ 2000000 * down e → length (shown places (fin s m e)) ≤ 9 + places
unfolding shown
small_length places s m e h =
    let d = down_pos e in
    let u : m * up e < 2000001 * down e = omega arith in
    let v : m * up e < too_large * down e = omega arith in
    let q : scaled_of places (fin s m e) ≤ 2000001 * 10 ^ places = le_trans (le_of_eq (exact places s m e v)) (closest_under (m * up e) (down e) 2000001 places d u) in
    let f = whole_bound 2000001 places (scaled_of places (fin s m e)) q in
    decimal_few places (lt (fin s m e) (of_bits binary64 0)) (scaled_of places (fin s m e)) 7 (omega arith) (omega arith)

-- ---- points, polygons, refusals
pub point_length : (places : ℕ) (p : Point) → length (point_text places p) ≤ 21 + 2 * places
point_length places (point x y) = omega (arith, number_length places x, number_length places y, length-append (shown places x) (32 ∷ shown places y))

pub list_length : (places : ℕ) (ps : List Point) → length (list_text places ps) ≤ length ps * (23 + 2 * places)
list_length places [] = zero-le
list_length places (p ∷ ps) =
    let e = suc-mul (length ps) (23 + 2 * places) in
    omega (arith, point_length places p, list_length places ps, length-append (point_text places p) (comma ++ list_text places ps))

-- x and y of each point
pub points_count : (l : List Float) → 2 * length (points_of l) ≤ length l
points_count [] = omega arith
points_count (x ∷ []) = omega arith
points_count (x ∷ y ∷ l) = omega (arith, points_count l)

-- at any length that the code takes
pub list_room : (places : ℕ) (l : List Float) → places ≤ 6 → length l < 4294967296 → length (list_text places (points_of l)) ≤ 75161927680
list_room places l h g =
    let n : length (points_of l) ≤ 2147483648 = omega (arith, points_count l) in
    let e : 23 + 2 * places ≤ 35 = omega arith in
    le_trans (list_length places (points_of l)) (mul-le-mul n e)

-- a polygon of n points: 14 bytes, and 23 + 2 * places for each point and the closing one
pub polygon_length : (places : ℕ) (ps : List Point) → length (polygon_text places ps) ≤ 14 + suc (length ps) * (23 + 2 * places)
polygon_length places [] = omega arith
polygon_length places (p ∷ ps) =
    let n = length (p ∷ ps) in
    let e = suc-mul n (23 + 2 * places) in
    omega (arith, list_length places (p ∷ ps), point_length places p, length-append (list_text places (p ∷ ps)) (point_text places p ++ ring_end), length-append (point_text places p) ring_end)

pub refused_length : (n : ℕ) → n < 10 ^ 10 → length (refused_text n) ≤ 19
refused_length n h = omega (arith, whole_few 10 n (omega arith) h, length-append (whole_text n) (10 ∷ []))
