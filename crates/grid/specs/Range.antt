-- Columns, rows and the cells that a box covers, as the Rust works them out (`grid.rs`, `build` and `cell_range`). Document 01, "Site and grid".
-- `floor_of`, `clamp_of` and `to_unsigned 64` are Rust's `floor`, `clamp` and `as usize`: clamp keeps a NaN, and the cast takes it to 0.
-- Definitions only.
use Rattle.std.specs.Prelude.{ℕ, ◌+◌, ◌-◌, ◌<◌, min, Bool, cond, not, ◌&&◌, ◌||◌, pos, Float, None, Option, Some}
use Rattle.std.specs.Float.{binary64}
use Rattle.std.specs.Float.Ieee.{lt, le, of_int, to_unsigned}
use Rattle.num.specs.Ops.{◌⊖◌, ◌⊗◌, ◌⊘◌, zero_f}
use Rattle.num.specs.Num.{floor_of, clamp_of}
use Rattle.geom.specs.declared.Aabb.{Aabb}
use Rattle.geom.specs.declared.Vec2.{Vec2}
use Rattle.geom.specs.Box.{is_empty_of}
use Rattle.grid.specs.declared.CellRange.{CellRange}
use Rattle.grid.specs.declared.Dims.{Dims}
use Rattle.grid.specs.declared.Grid.{Grid}

abbrev pub dims_of : Grid → Dims
dims_of g = record { cols = g.cols; rows = g.rows }

-- how many columns a width takes: floor(width / cell) + 1, and no more than a `u64` holds, where the Rust's sum overflows
unfoldable pub columns_of : Float → Float → ℕ
columns_of extent cell = min (to_unsigned 64 (floor_of (extent ⊘ cell)) + 1) 18446744073709551615

-- a number as a float: `n as f64`
abbrev pub count_f : ℕ → Float
count_f n = of_int binary64 (pos n)

-- a coordinate's column or row, before it is held to the grid
unfoldable pub cell_at : Float → Float → Float → Float
cell_at x origin inv = floor_of ((x ⊖ origin) ⊗ inv)

-- held to the grid: `x.clamp(0.0, last as f64) as usize`
unfoldable pub cell_index : Float → ℕ → ℕ
cell_index x last = to_unsigned 64 (clamp_of x zero_f (count_f last))

-- the range of the four floors, in a grid whose last column is mc and whose last row is mr: none where it lies wholly off the grid or the box is empty
unfoldable pub range_by : ℕ → ℕ → Bool → Float → Float → Float → Float → Option CellRange
range_by mc mr empty c0 r0 c1 r1 =
    cond (lt c1 zero_f) None
    (cond (lt r1 zero_f) None
    (cond (lt (count_f mc) c0) None
    (cond (lt (count_f mr) r0) None
    (cond empty None
    (Some (record { c0 = cell_index c0 mc; r0 = cell_index r0 mr; c1 = cell_index c1 mc; r1 = cell_index r1 mr }))))))

-- the cells that a box covers
unfoldable pub range_of : Grid → Aabb → Option CellRange
range_of g b =
    range_by (g.cols - 1) (g.rows - 1) (is_empty_of b)
    (cell_at b.min.x g.origin.x g.inv_cell) (cell_at b.min.y g.origin.y g.inv_cell)
    (cell_at b.max.x g.origin.x g.inv_cell) (cell_at b.max.y g.origin.y g.inv_cell)

-- a point whose column and row are c and r before the floor, in a grid of nc columns and nr rows: off the grid, or a NaN
unfoldable pub is_off : ℕ → ℕ → Vec2 → Float → Float → Bool
is_off nc nr p c r = lt c zero_f || lt r zero_f || le (count_f nc) c || le (count_f nr) r || not (le p.x p.x && le p.y p.y)

-- the range lies in the grid
pub record InGrid (g : Grid) (r : CellRange) : Type 0 where
  pub c0_in : r.c0 < g.cols
  pub c1_in : r.c1 < g.cols
  pub r0_in : r.r0 < g.rows
  pub r1_in : r.r1 < g.rows
