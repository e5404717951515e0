-- Where the walk of a ray over a grid begins: the first part of the Rust's `traverse_ray`, and its `axis_setup` (grid.rs). One rounding for each operation,
-- in the Rust's order; `min_of` and `max_of` are Rust's `min` and `max`, which pass over a NaN. Assumes nothing.
use Rattle.std.specs.Prelude.{◌≡◌, refl, false, ◌||◌, cond, ℕ, ◌+◌, ◌-◌, ◌^◌, ◌<◌, ℤ, pos, negsuc, ltb, eqb, Float, None, Option, Some}
use Rattle.std.specs.Float.{inf, binary64}
use Rattle.std.specs.Float.Ieee.{of_bits, round, neg, lt, to_signed}
use Rattle.num.specs.Ops.{◌⊕◌, ◌⊖◌, ◌⊗◌, ◌⊘◌, zero_f, one_f}
use Rattle.num.specs.Num.{abs_of, floor_of, min_of, max_of}
use Rattle.geom.specs.declared.Vec2.{Vec2}
use Rattle.geom.specs.Vec.{add_of, mul_of}
use Rattle.grid.specs.declared.Grid.{Grid}
use Rattle.grid.specs.Range.{count_f}
use Rattle.walk.specs.declared.Turn.TheVariants.{Up, Down, Stay}
use Rattle.walk.specs.declared.Axis.{Axis}
use Rattle.walk.specs.declared.Course.{Course}
use Rattle.walk.specs.declared.Place.{Place}

-- 1e-300: a ray slower than this along an axis counts as parallel to its slab
abbrev pub still : Float
still = of_bits binary64 0x01a5_6e1f_c2f8_f359

pub still_is : still ≡ round binary64 false 1 (10 ^ 300)
unfolding of_bits round
still_is = refl

-- the part of t0..t1 in which o + t * d lies from lo to hi
unfoldable pub clip_of : Float → Float → Float → Float → Float → Float → Option (Float × Float)
clip_of o d lo hi t0 t1 =
    let inv = one_f ⊘ d in
    let a = (lo ⊖ o) ⊗ inv in
    let b = (hi ⊖ o) ⊗ inv in
    cond (lt (abs_of d) still) (cond (lt o lo || lt hi o) None (Some (t0, t1)))
    (cond (lt b a) (Some (max_of t0 b, min_of t1 a)) (Some (max_of t0 a, min_of t1 b)))

abbrev pub in_part : (Float → Float → Option (Float × Float)) → Option (Float × Float) → Option (Float × Float)
in_part f (Some (t0, t1)) = f t0 t1
in_part f None = None

-- where the grid ends, on an axis with this many cells
abbrev pub end_of : Float → ℕ → Float → Float
end_of from count cell = from ⊕ count_f count ⊗ cell

-- the part of the ray in the grid's box: x, and in what is left of it y
unfoldable pub clip_box_of : Grid → Vec2 → Vec2 → Float → Option (Float × Float)
clip_box_of g o d len =
    in_part (clip_of o.y d.y g.origin.y (end_of g.origin.y g.rows g.cell))
    (clip_of o.x d.x g.origin.x (end_of g.origin.x g.cols g.cell) zero_f len)

-- Rust's `clamp(0, last)` of a whole number
abbrev pub clamp_to : ℤ → ℕ → ℕ
clamp_to (pos n) last = cond (ltb last n) last n
clamp_to (negsuc n) last = 0

-- `(at.floor() as isize).clamp(0, last)`
unfoldable pub index_of : Float → ℕ → ℕ
index_of at last = clamp_to (to_signed 63 (floor_of at)) last

-- which way the index goes on an axis, the t of the first boundary crossing, and the t between crossings
unfoldable pub axis_of : Float → Float → Float → ℕ → Float → Axis
axis_of d o from index cell =
    cond (lt zero_f d) (record { turn = Up; next = (from ⊕ count_f (index + 1) ⊗ cell ⊖ o) ⊘ d; delta = cell ⊘ d })
    (cond (lt d zero_f) (record { turn = Down; next = (from ⊕ count_f index ⊗ cell ⊖ o) ⊘ d; delta = neg cell ⊘ d })
    (record { turn = Stay; next = inf false; delta = inf false }))

-- the walk from t0 on
unfoldable pub set_out_of : Grid → Vec2 → Vec2 → Float → Float → Option (Course × Place)
set_out_of g o d t0 t1 =
    let start = add_of o (mul_of d t0) in
    let col = index_of ((start.x ⊖ g.origin.x) ⊗ g.inv_cell) (g.cols - 1) in
    let row = index_of ((start.y ⊖ g.origin.y) ⊗ g.inv_cell) (g.rows - 1) in
    let x = axis_of d.x o.x g.origin.x col g.cell in
    let y = axis_of d.y o.y g.origin.y row g.cell in
    Some (
      record { cols = g.cols; rows = g.rows; x = x; y = y; t1 = t1 },
      record { col = col; row = row; next_x = x.next; next_y = y.next; enter = t0 },
    )

-- the grid has cells
pub record Cells (g : Grid) : Type 0 where
  pub some_cols : 0 < g.cols
  pub some_rows : 0 < g.rows

abbrev pub on_part : (Float → Float → Option (Course × Place)) → Option (Float × Float) → Option (Course × Place)
on_part f (Some (t0, t1)) = cond (lt t1 t0) None (f t0 t1)
on_part f None = None

-- where the walk begins
unfoldable pub ray_start : Grid → Vec2 → Vec2 → Float → Option (Course × Place)
ray_start g o d len = cond (eqb g.cols 0 || eqb g.rows 0) None (on_part (set_out_of g o d) (clip_box_of g o d len))
