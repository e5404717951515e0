-- The bounds of a site, the size of its cells, its columns and rows: `Scene::new` and `pick_cell_size` of `scene.rs`, one rounding for each operation, in the
-- Rust's order. Document 01, "Site and grid". `max_of` is Rust's `max`, which passes over a NaN. Definitions only.
use Rattle.std.specs.Prelude.{ℕ, ◌+◌, cond, not, List, length, ◌==◌, from_bits, Float}
use mathlib.Core.List.{foldl}
use Rattle.std.specs.Float.{binary64}
use Rattle.lists.specs.Lists.{filter}
use Rattle.num.specs.Ops.{◌⊕◌, ◌⊗◌, ◌⊘◌, zero_f, one_f}
use Rattle.num.specs.Num.{max_of}
use Rattle.num.specs.Root.{sqrt_of}
use Rattle.geom.specs.declared.Aabb.{Aabb}
use Rattle.geom.specs.Vec.{vec, origin}
use Rattle.geom.specs.Box.{box, union_of, is_empty_of, width_of, height_of}
use Rattle.grid.specs.Range.{columns_of, count_f}
use Rattle.extent.specs.declared.Sides.{Sides}

-- those of the boxes that are not empty, in their order
abbrev pub non_empty : List Aabb → List Aabb
non_empty bs = filter (λ b. not (is_empty_of b)) bs

-- the box from (0, 0) to (width, height), joined with every box that is not empty
unfoldable pub bounds_of : Float → Float → List Aabb → Aabb
bounds_of width height bs = foldl union_of (box origin (vec width height)) (non_empty bs)

-- the bounds a by one box more (`bounds_next` of proofs/Steps): an empty one is passed over
unfoldable pub join_box_of : Aabb → Aabb → Aabb
join_box_of a b = cond (is_empty_of b) a (union_of a b)

-- the larger side of a box
unfoldable pub side_of : Aabb → Float
side_of b = max_of (width_of b) (height_of b)

-- the larger sides of the boxes that are not empty: their sum, from 0 on, and their number
unfoldable pub sides_of : List Aabb → Sides
sides_of bs = record {
  sum = foldl (λ (s : Float) (b : Aabb). s ⊕ side_of b) zero_f (non_empty bs);
  count = length (non_empty bs);
}

-- the sides by one box more (`sides_next`)
unfoldable pub add_side_of : Sides → Aabb → Sides
add_side_of s b = cond (is_empty_of b) s (record { sum = s.sum ⊕ side_of b; count = s.count + 1 })

-- 4,000,000: about how many cells the bounds may have
abbrev pub cells_cap : Float
cells_cap = from_bits binary64 0x414e_8480_0000_0000

-- the largest of the mean side, the root of the bounds' area / 4,000,000, and 1; without sides the largest of the bounds' width, height and 1
unfoldable pub cell_from : Sides → Aabb → Float
cell_from s bounds =
    cond (s.count == 0) (max_of (side_of bounds) one_f)
    (max_of (max_of (s.sum ⊘ count_f s.count) (sqrt_of (width_of bounds ⊗ height_of bounds ⊘ cells_cap))) one_f)

-- the size of the cells of a site with these boxes and bounds
unfoldable pub cell_size_of : List Aabb → Aabb → Float
cell_size_of bs bounds = cell_from (sides_of bs) bounds

-- the columns and rows of cells that cover the bounds
unfoldable pub cols_of : Aabb → Float → ℕ
cols_of bounds cell = columns_of (width_of bounds) cell

unfoldable pub rows_of : Aabb → Float → ℕ
rows_of bounds cell = columns_of (height_of bounds) cell
