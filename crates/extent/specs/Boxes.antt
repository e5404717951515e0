-- A polygon's box, and the boxes of a table (`grid`'s specs/Boxes.antt). Document 01, "Site and grid" and "Sound tables";
-- `Scene::new` of `scene.rs`. Definitions only.
use Rattle.std.specs.Prelude.{ℕ, ◌/◌, min, cond, List, length, nat_lt, Float}
use Rattle.lists.specs.Lists.{listed}
use Rattle.geom.specs.declared.Aabb.{Aabb}
use Rattle.geom.specs.Box.{corners, empty_box, from_points_of}
use Rattle.grid.specs.Boxes.{box_stride, box_at}

-- the box that a polygon's points give: the smallest around three points or more, the empty one around fewer
unfoldable pub polygon_box_of : List Float → Aabb
polygon_box_of pts = cond (nat_lt (corners pts) 3) empty_box (from_points_of pts)

-- how many boxes the table has whole
abbrev pub box_count : List Float → ℕ
box_count table = length table / box_stride

-- the boxes of the first n polygons, in id order; no more than the table has
unfoldable pub boxes_of : List Float → ℕ → List Aabb
boxes_of table n = listed (box_at table) (min n (box_count table))
