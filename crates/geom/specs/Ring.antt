-- `point_in_polygon` and `signed_area` of `geom.rs`, over a ring of corners: x and y by turns in a list of numbers. Definitions only.
use Rattle.std.specs.Prelude.{ℕ, zero, suc, ◌+◌, ◌-◌, ◌%◌, Bool, false, cond, ◌&&◌, List, nat_lt, Float}
use Rattle.std.specs.Bool.{xor}
use Rattle.std.specs.Float.Ieee.{lt}
use Rattle.num.specs.Ops.{◌⊕◌, ◌⊖◌, ◌⊗◌, ◌⊘◌, zero_f}
use Rattle.geom.specs.declared.Vec2.{Vec2}
use Rattle.geom.specs.Constants.{half}
use Rattle.geom.specs.Vec.{cross_of}
use Rattle.geom.specs.Box.{corners, corner_of}

-- the edge from b to a crosses the level of p to the right of p: one end is above the level and the other is not, and p is left of the edge there
unfoldable pub crosses : Vec2 → Vec2 → Vec2 → Bool
crosses p a b =
    xor (lt p.y a.y) (lt p.y b.y)
    && lt p.x ((b.x ⊖ a.x) ⊗ (p.y ⊖ a.y) ⊘ (b.y ⊖ a.y) ⊕ a.x)

-- of n corners, the one before corner i: the last before the first
abbrev pub corner_before : ℕ → ℕ → ℕ
corner_before n zero = n - 1
corner_before n (suc i) = i

-- the even-odd walk over the first k edges of a ring, the closing edge first: each edge crossed turns outside to inside and back
unfoldable pub inside_up_to : Vec2 → List Float → ℕ → Bool
inside_up_to p ring zero = false
inside_up_to p ring (suc i) = xor (inside_up_to p ring i) (crosses p (corner_of ring i) (corner_of ring (corner_before (corners ring) i)))

-- fewer than three corners hold nothing
unfoldable pub point_in_polygon_of : Vec2 → List Float → Bool
point_in_polygon_of p ring = cond (nat_lt (corners ring) 3) false (inside_up_to p ring (corners ring))

-- twice the signed area that the edge from corner i to the next one sweeps
abbrev pub edge_term : List Float → ℕ → Float
edge_term ring i = cross_of (corner_of ring i) (corner_of ring ((i + 1) % corners ring))

-- the terms of the first k edges, summed in order from zero
unfoldable pub area_up_to : List Float → ℕ → Float
area_up_to ring zero = zero_f
area_up_to ring (suc i) = area_up_to ring i ⊕ edge_term ring i

unfoldable pub signed_area_of : List Float → Float
signed_area_of ring = half ⊗ area_up_to ring (corners ring)
