-- `Aabb` of `geom.rs`, and the points of a number list. `min_of` and `max_of` are Rust's `min` and `max`, which pass over a NaN. Definitions only.
use Rattle.std.specs.Prelude.{ℕ, zero, suc, ◌+◌, ◌*◌, ◌/◌, Bool, true, false, not, ◌&&◌, List, length, slice_index_or, Float}
use Rattle.std.specs.Float.{nan, inf}
use Rattle.std.specs.Float.Ieee.{le}
use Rattle.num.specs.Ops.{◌⊕◌, ◌⊖◌, ◌⊗◌, zero_f}
use Rattle.num.specs.Num.{min_of, max_of}
use Rattle.geom.specs.declared.Vec2.{Vec2}
use Rattle.geom.specs.declared.Aabb.{Aabb}
use Rattle.geom.specs.Vec.{vec}

-- ---- points in a list of numbers: x and y by turns. An odd last number is not a point
abbrev pub corners : List Float → ℕ
corners pts = length pts / 2

abbrev pub corner_of : List Float → ℕ → Vec2
corner_of pts i = vec (slice_index_or pts (2 * i) nan) (slice_index_or pts (2 * i + 1) nan)

-- ---- boxes
-- the box with these corners
abbrev pub box : Vec2 → Vec2 → Aabb
box low high = record { min = low; max = high }

-- the box that contains nothing: its low corner is above every number, its high corner below
abbrev pub empty_box : Aabb
empty_box = box (vec (inf false) (inf false)) (vec (inf true) (inf true))

unfoldable pub around_of : Vec2 → Float → Aabb
around_of c r = box (vec (c.x ⊖ r) (c.y ⊖ r)) (vec (c.x ⊕ r) (c.y ⊕ r))

-- b grown to contain p
unfoldable pub include_of : Aabb → Vec2 → Aabb
include_of b p = box (vec (min_of b.min.x p.x) (min_of b.min.y p.y)) (vec (max_of b.max.x p.x) (max_of b.max.y p.y))

-- the empty box grown by the first n points, in their order
unfoldable pub box_up_to : List Float → ℕ → Aabb
box_up_to pts zero = empty_box
box_up_to pts (suc i) = include_of (box_up_to pts i) (corner_of pts i)

unfoldable pub from_points_of : List Float → Aabb
from_points_of pts = box_up_to pts (corners pts)

unfoldable pub union_of : Aabb → Aabb → Aabb
union_of a b =
    box (vec (min_of a.min.x b.min.x) (min_of a.min.y b.min.y))
    (vec (max_of a.max.x b.max.x) (max_of a.max.y b.max.y))

-- also where a corner is NaN
unfoldable pub is_empty_of : Aabb → Bool
is_empty_of b = not (le b.min.x b.max.x && le b.min.y b.max.y)

-- boundary included
unfoldable pub contains_of : Aabb → Vec2 → Bool
contains_of b p = le b.min.x p.x && le p.x b.max.x && le b.min.y p.y && le p.y b.max.y

-- touching counts
unfoldable pub intersects_of : Aabb → Aabb → Bool
intersects_of a b = le a.min.x b.max.x && le b.min.x a.max.x && le a.min.y b.max.y && le b.min.y a.max.y

-- how far p lies outside the stretch from low to high; 0 within
abbrev pub outside : Float → Float → Float → Float
outside low high p = max_of (max_of (low ⊖ p) zero_f) (p ⊖ high)

unfoldable pub distance_sq_to_of : Aabb → Vec2 → Float
distance_sq_to_of b p =
    let dx = outside b.min.x b.max.x p.x in
    let dy = outside b.min.y b.max.y p.y in
    dx ⊗ dx ⊕ dy ⊗ dy

unfoldable pub width_of : Aabb → Float
width_of b = b.max.x ⊖ b.min.x

unfoldable pub height_of : Aabb → Float
height_of b = b.max.y ⊖ b.min.y
