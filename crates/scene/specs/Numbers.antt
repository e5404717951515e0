-- The questions' answers as plain numbers: of each answer its status, 0 or document 01's number of the refusal (`status_of` of crate `refusal`), and its values, zeros
-- where it is refused. Document 01, "Choosing the form by place" ("If an answer is an enum, a definition gives this paper's number and values for each case") and
-- "Refusal numbers". The box query's answer has its numbers in crate `grid`. When each status is given: proofs/Refusals.antt. Definitions only.
use Rattle.std.specs.Prelude.{ℕ, List, [], ◌∷◌, Float, Option, Some, None, Result, Ok, Err}
use Rattle.num.specs.Ops.{zero_f}
use Rattle.refusal.specs.declared.Refusal.{Refusal}
use Rattle.geom.specs.declared.Aabb.{Aabb}
use Rattle.grid.specs.declared.Dims.{Dims}
use Rattle.site.specs.declared.Ends.{Ends}
use Rattle.site.specs.declared.RayHit.{RayHit}
use Rattle.sight.specs.declared.Sighting.{Sighting}
use Rattle.build.specs.Stored.{box_numbers}
use Rattle.scene.specs.declared.Polygon.{Polygon}

-- ---- the head's questions
-- a width or a height
abbrev pub extent_value : Result Float Refusal → Float
extent_value (Ok x) = x
extent_value (Err r) = zero_f

-- a box is its four numbers, as a site's table has them (`box_numbers`)
abbrev pub four_zeros : List Float
four_zeros = zero_f ∷ zero_f ∷ zero_f ∷ zero_f ∷ []

abbrev pub bounds_four : Result Aabb Refusal → List Float
bounds_four (Ok b) = box_numbers b
bounds_four (Err r) = four_zeros

abbrev pub dims_two : Result Dims Refusal → List ℕ
dims_two (Ok d) = d.cols ∷ d.rows ∷ []
dims_two (Err r) = 0 ∷ 0 ∷ []

-- ---- polygons and edges
abbrev pub shape_place : Result Polygon Refusal → List ℕ
shape_place (Ok p) = p.first ∷ p.len ∷ []
shape_place (Err r) = 0 ∷ 0 ∷ []

abbrev pub shape_four : Result Polygon Refusal → List Float
shape_four (Ok p) = box_numbers p.aabb
shape_four (Err r) = four_zeros

abbrev pub segment_four : Result Ends Refusal → List Float
segment_four (Ok e) = e.a.x ∷ e.a.y ∷ e.b.x ∷ e.b.y ∷ []
segment_four (Err r) = four_zeros

-- the number of a point, a polygon or entries
abbrev pub number_value : Result ℕ Refusal → ℕ
number_value (Ok n) = n
number_value (Err r) = 0

-- ---- a point: 1 and the id, or zeros
abbrev pub whose_two : Option ℕ → List ℕ
whose_two (Some k) = 1 ∷ k ∷ []
whose_two None = 0 ∷ 0 ∷ []

abbrev pub found_two : Result (Option ℕ) Refusal → List ℕ
found_two (Ok w) = whose_two w
found_two (Err r) = 0 ∷ 0 ∷ []

-- ---- a cast: its distance; 1 and the edge, or zeros; and the cells entered
abbrev pub cast_distance : Option RayHit → Float
cast_distance (Some h) = h.t
cast_distance None = zero_f

abbrev pub cast_hit : Option RayHit → ℕ
cast_hit (Some h) = 1
cast_hit None = 0

abbrev pub cast_edge : Option RayHit → ℕ
cast_edge (Some h) = h.edge
cast_edge None = 0

abbrev pub look_distance : Result Sighting Refusal → Float
look_distance (Ok s) = cast_distance s.hit
look_distance (Err r) = zero_f

abbrev pub look_three : Result Sighting Refusal → List ℕ
look_three (Ok s) = cast_hit s.hit ∷ cast_edge s.hit ∷ s.cells ∷ []
look_three (Err r) = 0 ∷ 0 ∷ 0 ∷ []
