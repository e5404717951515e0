-- SAMPLES P1 to P10 of document 01 ("Samples to prove") as one table: a row of numbers for each sample. The sites are built and asked by the definitions of
-- the entry points, tests and refusals included, so each row is what the calls of `build`, `scene` and `rng` answer (P6's area: `geom`). The one claim, that
-- `table` is `expected`, is proofs/SamplesHold.antt. Definitions only.
-- A row that comes from a call starts with 0, or is the refusal's number alone. A float stands as its bit pattern.
use Rattle.std.specs.Prelude.{true, false, List, [], ◌∷◌, ◌++◌, map, ℕ, replicate, take, Float, Err, Result, Ok, None, Option, Some}
use Rattle.std.specs.Float.{binary64}
use Rattle.std.specs.Float.Ieee.{to_bits, round}
use Rattle.refusal.specs.declared.Refusal.{Refusal}
use Rattle.refusal.specs.Numbers.{number_of}
use Rattle.num.specs.Ops.{zero_f, one_f}
use Rattle.geom.specs.Vec.{vec}
use Rattle.geom.specs.Box.{box}
use Rattle.geom.specs.Ring.{signed_area_of}
use Rattle.rng.specs.declared.Rng.{Rng}
use Rattle.rng.specs.Rng as rng
use Rattle.grid.specs.declared.Listing.{Listing}
use Rattle.grid.specs.Range.{count_f}
use Rattle.grid.specs.Query as query
use Rattle.site.specs.declared.Site.{Site}
use Rattle.site.specs.declared.RayHit.{RayHit}
use Rattle.site.specs.Tables.{Tables, tables}
use Rattle.sight.specs.declared.Sighting.{Sighting}
use Rattle.scene.specs.Answers.{polygon_at_of, cast_ray_of}
use Rattle.scene.specs.Stamping.{polygons_near_of}
use Rattle.build.specs.Outcome.{Outcome, outcome}

-- ---- numbers
-- the float nearest to n / d
abbrev ratio : ℕ → ℕ → Float
ratio n d = round binary64 false n d

-- its bit pattern
abbrev pub bits : ℕ → ℕ → ℕ
bits n d = to_bits binary64 (ratio n d)

-- the bit pattern of minus n
abbrev pub minus : ℕ → ℕ
minus n = to_bits binary64 (round binary64 true n 1)

-- ---- the sites
-- room for two squares, 36 cells and eight items
abbrev pub lent : Tables
lent = tables (replicate 16 zero_f) (replicate 8 zero_f) (replicate 4 0) (replicate 8 0) (replicate 37 0) (replicate 8 0)

-- what building makes of a site of this width and height there
unfoldable pub built : ℕ → ℕ → List ℕ → List ℕ → Outcome
built w h points lens = outcome (count_f w) (count_f h) (map count_f points) lens lent

-- the square (2,2), (4,2), (4,4), (2,4)
abbrev pub square : List ℕ
square = 2 ∷ 2 ∷ 4 ∷ 2 ∷ 4 ∷ 4 ∷ 2 ∷ 4 ∷ []

-- "Site A: 10 by 10, one square"
abbrev pub site_a : Outcome
site_a = built 10 10 square (4 ∷ [])

-- "The square twice"
abbrev pub twice : Outcome
twice = built 10 10 (square ++ square) (4 ∷ 4 ∷ [])

-- "No polygons, 10 by 4"
abbrev pub bare : Outcome
bare = built 10 4 [] []

-- "Points (0,0),(0,2),(2,2),(2,0)"
abbrev pub clockwise : List ℕ
clockwise = 0 ∷ 0 ∷ 0 ∷ 2 ∷ 2 ∷ 2 ∷ 2 ∷ 0 ∷ []

-- ---- what a call answers, as a row
-- what is asked of a site and its tables, unless building refused
abbrev pub made_row : (Site → Tables → List ℕ) → Tables → Result Site Refusal → List ℕ
made_row ask t (Err r) = number_of r ∷ []
made_row ask t (Ok s) = ask s t

unfoldable pub of : Outcome → (Site → Tables → List ℕ) → List ℕ
of o ask = made_row ask o.left o.answer

-- the head: 0, cell, columns, rows, items
abbrev pub head : Site → Tables → List ℕ
head s t = 0 ∷ to_bits binary64 s.grid.cell ∷ s.grid.cols ∷ s.grid.rows ∷ s.items ∷ []

-- the stored points of a site of four
abbrev pub stored : Site → Tables → List ℕ
stored s t = 0 ∷ map (to_bits binary64) (take 8 t.points)

-- a box query: 0, the entries read, the epoch after it, and the ids listed
abbrev pub listing_row : query.Outcome → Result Listing Refusal → List ℕ
listing_row o (Err r) = number_of r ∷ []
listing_row o (Ok l) = 0 ∷ l.read ∷ o.epoch ∷ take l.written o.ids

-- the query of the box from (a, b) to (c, d), with these marks and this epoch, in room for two ids
abbrev pub near : ℕ → ℕ → ℕ → ℕ → List ℕ → ℕ → Site → Tables → List ℕ
near a b c d marks epoch s t =
    let o = polygons_near_of s t (box (vec (count_f a) (count_f b)) (vec (count_f c) (count_f d))) marks epoch (0 ∷ 0 ∷ []) in
    listing_row o o.answer

-- the polygon at a point: 0 and its id, or 0 alone
abbrev pub found_row : Result (Option ℕ) Refusal → List ℕ
found_row (Err r) = number_of r ∷ []
found_row (Ok (Some k)) = 0 ∷ k ∷ []
found_row (Ok None) = 0 ∷ []

abbrev pub at : ℕ → ℕ → Site → Tables → List ℕ
at x y s t = found_row (polygon_at_of s t (vec (count_f x) (count_f y)))

-- a ray: 0, the cells entered, and, unless it is a miss, the edge and the distance
abbrev pub cast_row : Option RayHit → List ℕ
cast_row (Some h) = h.edge ∷ to_bits binary64 h.t ∷ []
cast_row None = []

abbrev pub look_row : Result Sighting Refusal → List ℕ
look_row (Err r) = number_of r ∷ []
look_row (Ok s) = 0 ∷ s.cells ∷ cast_row s.hit

-- the ray from (x, y) along (1, 0), length 100, in mode 0
abbrev pub ray : Float → Float → Site → Tables → List ℕ
ray x y s t = look_row (cast_ray_of s t (vec x y) (vec one_f zero_f) (count_f 100) 0)

-- ---- THE TABLE: what the definitions answer, a row for each sample, by the sites. P7 is asked of any generator
unfoldable pub rows_by : Rng → Outcome → Outcome → Outcome → Outcome → List (List ℕ)
rows_by g a two none turned =
    of a head
    ∷ of a (near 5 5 6 6 (0 ∷ []) 0)
    ∷ of a (near 6 6 7 7 (0 ∷ []) 0)
    ∷ (of two (near 0 0 10 10 (0 ∷ 0 ∷ []) 0) ++ of two (at 3 3))
    ∷ of none head
    ∷ (to_bits binary64 (signed_area_of (map count_f clockwise)) ∷ of turned stored)
    ∷ ((rng.range_of g 5 5).value ∷ [])
    ∷ of a (ray (ratio 1 2) (ratio 3 1))
    ∷ of a (ray (ratio 1 2) (ratio 1 2))
    ∷ of a (near 5 5 6 6 (1 ∷ []) 4294967295)
    ∷ []

abbrev pub table : Rng → List (List ℕ)
table g = rows_by g site_a twice bare (built 10 10 clockwise (4 ∷ []))

-- what document 01 says. That the table is this is `samples_hold` of proofs/SamplesHold.antt
abbrev pub expected : List (List ℕ)
expected =
    -- P1 "A has cell 2, six columns, six rows, four items"
    (0 ∷ bits 2 1 ∷ 6 ∷ 6 ∷ 4 ∷ [])
    -- P2 "Box (5,5)-(6,6): lists 0, reads 1"; new stamps have epoch 0, so it is 1 then
    ∷ (0 ∷ 1 ∷ 1 ∷ 0 ∷ [])
    -- P3 "Box (6,6)-(7,7): lists none, reads 0"; it has a range, so the epoch rises
    ∷ (0 ∷ 0 ∷ 1 ∷ [])
    -- P4 "The square twice: whole-site box lists 0, 1 and reads 8; `polygon_at` (3,3) is 1"
    ∷ (0 ∷ 8 ∷ 1 ∷ 0 ∷ 1 ∷ 0 ∷ 1 ∷ [])
    -- P5 "No polygons, 10 by 4: cell 10, two columns, one row"
    ∷ (0 ∷ bits 10 1 ∷ 2 ∷ 1 ∷ 0 ∷ [])
    -- P6 "Points (0,0),(0,2),(2,2),(2,0) have area -4 and are reversed"
    ∷ (minus 4 ∷ 0 ∷ bits 2 1 ∷ bits 0 1 ∷ bits 2 1 ∷ bits 2 1 ∷ bits 0 1 ∷ bits 2 1 ∷ bits 0 1 ∷ bits 0 1 ∷ [])
    -- P7 "`range` of 5 to 5 is 5"
    ∷ (5 ∷ [])
    -- P8 "In A, ray from (0.5,3) along (1,0), length 100: edge 3 at 1.5, two cells entered"
    ∷ (0 ∷ 2 ∷ 3 ∷ bits 3 2 ∷ [])
    -- P9 "In A, ray from (0.5,0.5) along (1,0), length 100: a miss, six cells"
    ∷ (0 ∷ 6 ∷ [])
    -- P10 "Epoch 4,294,967,295, then P2's query: epoch 1". The mark 1 of long ago is cleared, so the list is P2's
    ∷ (0 ∷ 1 ∷ 1 ∷ 0 ∷ [])
    ∷ []
