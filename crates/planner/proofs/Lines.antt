-- The lines of the polygons seen: one after the other, and how long they are.
-- Assumes nothing.
use mathlib.Core.Path.{◌≡◌, ap}
use mathlib.Core.List.{List, [], ◌∷◌, ◌++◌}
use Prim.Native.Nat.{ℕ, suc, ◌+◌, ◌*◌, ◌≤◌, ◌<◌, zero-le}
use native.Mathlib.Nat.{suc-mul, add-mul, mul-le-mul_right, le_trans}
use native.Mathlib.Omega.{arith}
use lib.ListN.{length, drop, get_or, length-append, length-take, length-drop, drop_of_length-le}
use lib.Ieee.{Float}
use Rattle.lists.specs.Lists.{sum_over}
use Rattle.lists.specs.Parts.{part}
use Rattle.lists.proofs.Parts.{drop_here}
use Rattle.site.specs.Tables.{first_of, len_of, verts_of}
use Rattle.wkt_print.specs.Lines.{points_of, polygon_text}
use Rattle.wkt_print.proofs.Lengths.{points_count, polygon_length}
use Rattle.planner.specs.Answer.{lines_of, point_bytes}

-- ---- one more line, and the last
module _ (places : ℕ) (points : List Float) (polygons : List ℕ) where
  pub lines_next : (ids : List ℕ) (i : ℕ) → i < length ids
      → lines_of places points polygons (drop i ids) ≡ polygon_text places (points_of (verts_of points polygons (get_or ids i 0))) ++ lines_of places points polygons (drop (i + 1) ids)
  lines_next ids i h = ap (lines_of places points polygons) (drop_here ids i 0 h)

  pub lines_end : (ids : List ℕ) (i : ℕ) → length ids ≤ i → lines_of places points polygons (drop i ids) ≡ []
  lines_end ids i h = ap (lines_of places points polygons) (drop_of_length-le ids h)

-- ---- lengths
pub part_few : (a e : ℕ) (l : List Float) → length (part a e l) ≤ length l
part_few a e l = simp (length-take, length-drop) (omega arith)

pub verts_few : (points : List Float) (polygons : List ℕ) (k : ℕ) → length (verts_of points polygons k) ≤ length points
verts_few points polygons k = part_few (2 * first_of polygons k) (2 * (first_of polygons k + len_of polygons k)) points

-- so many as the polygon's length says, or fewer where they lie outside
verts_most : (points : List Float) (polygons : List ℕ) (k : ℕ) → length (verts_of points polygons k) ≤ 2 * len_of polygons k
verts_most points polygons k = simp (length-take, length-drop) (omega arith)

-- a line of at most n points, and the closing one
line_most : (places n : ℕ) (l : List Float) → length l ≤ 2 * n → length (polygon_text places (points_of l)) ≤ 14 + suc n * point_bytes places
line_most places n l h =
    let k : suc (length (points_of l)) ≤ suc n = omega (arith, points_count l) in
    let m : suc (length (points_of l)) * point_bytes places ≤ suc n * point_bytes places = mul-le-mul_right (point_bytes places) k in
    omega (arith, m, polygon_length places (points_of l))

-- of at most 512 points
line_length : (places : ℕ) (l : List Float) → length l ≤ 1024 → length (polygon_text places (points_of l)) ≤ 14 + 513 * point_bytes places
line_length places l h = line_most places 512 l h

-- an outline of at most 2,048 points
pub outline_length : (places : ℕ) (l : List Float) → length l ≤ 4096 → length (polygon_text places (points_of l)) ≤ 14 + 2049 * point_bytes places
outline_length places l h = line_most places 2048 l h

-- the lines of some polygons: so many bytes for each point of theirs and each closing one, and 14 for each line
pub lines_sum : (places : ℕ) (points : List Float) (polygons ids : List ℕ)
    → length (lines_of places points polygons ids) ≤ sum_over (len_of polygons) ids * point_bytes places + length ids * (14 + point_bytes places)
lines_sum places points polygons [] = zero-le
lines_sum places points polygons (k ∷ ids) =
    let l = verts_of points polygons k in
    let m = line_most places (len_of polygons k) l (verts_most points polygons k) in
    let a = suc-mul (len_of polygons k) (point_bytes places) in
    let b = add-mul (len_of polygons k) (sum_over (len_of polygons) ids) (point_bytes places) in
    let d = suc-mul (length ids) (14 + point_bytes places) in
    omega (arith, m, a, b, d, lines_sum places points polygons ids, length-append (polygon_text places (points_of l)) (lines_of places points polygons ids))

-- ---- where nothing is known of the tables: every line may have every point
module _ (places : ℕ) (points : List Float) (polygons : List ℕ) (h : length points ≤ 1024) where
  lines_length : (ids : List ℕ) → length (lines_of places points polygons ids) ≤ length ids * (14 + 513 * point_bytes places)
  lines_length [] = zero-le
  lines_length (k ∷ ids) =
      let l = verts_of points polygons k in
      let f : length l ≤ 1024 = le_trans (verts_few points polygons k) h in
      let e = suc-mul (length ids) (14 + 513 * point_bytes places) in
      omega (arith, e, line_length places l f, lines_length ids, length-append (polygon_text places (points_of l)) (lines_of places points polygons ids))

  -- so that every place on the way fits
  pub lines_room : (ids : List ℕ) → length ids ≤ 64 → length (lines_of places points polygons ids) ≤ 64 * (14 + 513 * point_bytes places)
  lines_room ids g = le_trans (lines_length ids) (mul-le-mul_right (14 + 513 * point_bytes places) g)
