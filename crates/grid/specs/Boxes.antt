-- The boxes that a grid is built over, four numbers each: min x, min y, max x, max y. `UniformGrid::build` of `grid.rs` takes them as `boxes`.
-- Past the end of the list a number reads as NaN. Definitions only.
use Rattle.std.specs.Prelude.{ℕ, ◌+◌, ◌*◌, List, get_or, Float}
use Rattle.std.specs.Float.{nan}
use Rattle.geom.specs.declared.Aabb.{Aabb}
use Rattle.geom.specs.Vec.{vec}
use Rattle.geom.specs.Box.{box}

-- how many numbers a box takes
abbrev pub box_stride : ℕ
box_stride = 4

-- the box whose numbers stand from a place on
unfoldable pub box_from : List Float → ℕ → Aabb
box_from boxes at = box (vec (get_or boxes at nan) (get_or boxes (at + 1) nan)) (vec (get_or boxes (at + 2) nan) (get_or boxes (at + 3) nan))

-- the box k, of the polygon k
unfoldable pub box_at : List Float → ℕ → Aabb
unfolding box_from
box_at boxes k = box_from boxes (k * box_stride)
