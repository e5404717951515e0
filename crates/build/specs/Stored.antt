-- What a site stores of the polygons given: their points as they are stored, and the four tables made of them (`Scene::new` of `scene.rs`, lines 103 to 155;
-- document 01, "Site and grid"). The points are given as one list of numbers, x and y by turns, polygon after polygon, and beside it the list of the
-- polygons' lengths. Definitions only.
use Rattle.std.specs.Prelude.{Bool, cond, List, [], ◌∷◌, ◌++◌, map, ℕ, ◌+◌, ◌*◌, length, get_or, replicate, Float, Option}
use Rattle.std.specs.Float.Ieee.{lt}
use Rattle.lists.specs.Lists.{joined, listed, sum_to}
use Rattle.lists.specs.Parts.{part}
use Rattle.num.specs.Ops.{◌⊘◌, zero_f, one_f}
use Rattle.geom.specs.declared.Aabb.{Aabb}
use Rattle.geom.specs.Ring.{signed_area_of}
use Rattle.grid.specs.declared.Grid.{Grid}
use Rattle.grid.specs.Range.{range_of}
use Rattle.extent.specs.Boxes.{polygon_box_of}
use Rattle.extent.specs.Extent.{bounds_of, cell_size_of, cols_of, rows_of}
use Rattle.site.specs.Domain.{load_of}
use Rattle.grid.specs.declared.CellRange.{CellRange}

-- ---- where the polygon k stands: how many points it has, and how many come before it
abbrev pub len_in : List ℕ → ℕ → ℕ
len_in lens k = get_or lens k 0

abbrev pub first_in : List ℕ → ℕ → ℕ
first_in lens k = sum_to (len_in lens) k

-- ---- its points
-- as given, from the point `first` on, len of them: each number loaded, so that minus zero is plus zero
unfoldable pub given_at : List Float → ℕ → ℕ → List Float
given_at given first len = part (2 * first) (2 * (first + len)) (map load_of given)

-- the points in reversed order, each x, y
abbrev pub turned : List Float → List Float
turned [] = []
turned (x ∷ []) = x ∷ []
turned (x ∷ y ∷ l) = turned l ++ (x ∷ y ∷ [])

-- "A polygon of negative computed `signed_area` is reversed"
unfoldable pub is_reversed : List Float → ℕ → ℕ → Bool
is_reversed given first len = lt (signed_area_of (given_at given first len)) zero_f

-- the points, reversed or not
unfoldable pub ordered_at : Bool → List Float → ℕ → ℕ → List Float
ordered_at reversed given first len = cond reversed (turned (given_at given first len)) (given_at given first len)

-- as stored
unfoldable pub stored_at : List Float → ℕ → ℕ → List Float
stored_at given first len = ordered_at (is_reversed given first len) given first len

-- those of the polygon k
unfoldable pub stored_of : List Float → List ℕ → ℕ → List Float
stored_of given lens k = stored_at given (first_in lens k) (len_in lens k)

-- its box: the empty one for fewer than three points
unfoldable pub stored_box : List Float → List ℕ → ℕ → Aabb
stored_box given lens k = polygon_box_of (stored_of given lens k)

-- all boxes, by id
unfoldable pub stored_boxes : List Float → List ℕ → List Aabb
stored_boxes given lens = listed (stored_box given lens) (length lens)

-- ---- the tables, polygon after polygon
-- the points: x, y
unfoldable pub points_of : List Float → List ℕ → List Float
points_of given lens = joined (stored_of given lens) (length lens)

-- the boxes: min x, min y, max x, max y
abbrev pub box_numbers : Aabb → List Float
box_numbers b = b.min.x ∷ b.min.y ∷ b.max.x ∷ b.max.y ∷ []

unfoldable pub boxes_table : List Float → List ℕ → List Float
boxes_table given lens = joined (λ k. box_numbers (stored_box given lens k)) (length lens)

-- the polygons: first, len
unfoldable pub polygons_table : List ℕ → List ℕ
polygons_table lens = joined (λ k. first_in lens k ∷ len_in lens k ∷ []) (length lens)

-- the owners: the polygon's id, for each of its points
unfoldable pub owners_table : List ℕ → List ℕ
owners_table lens = joined (λ k. replicate (len_in lens k) k) (length lens)

-- ---- the grid
-- "the box from (0, 0) to (width, height), joined with every non-empty box", its cells, columns and rows (`grid.rs`, `build`)
unfoldable pub grid_by : Aabb → Float → Grid
grid_by bounds cell = record {
  origin = bounds.min;
  cell = cell;
  inv_cell = one_f ⊘ cell;
  cols = cols_of bounds cell;
  rows = rows_of bounds cell;
}

unfoldable pub bounds_in : Float → Float → List Float → List ℕ → Aabb
bounds_in width height given lens = bounds_of (load_of width) (load_of height) (stored_boxes given lens)

unfoldable pub cell_in : Float → Float → List Float → List ℕ → Float
cell_in width height given lens = cell_size_of (stored_boxes given lens) (bounds_in width height given lens)

unfoldable pub grid_of : Float → Float → List Float → List ℕ → Grid
grid_of width height given lens = grid_by (bounds_in width height given lens) (cell_in width height given lens)

-- the cells of the polygon k
unfoldable pub span_in : Grid → List Float → List ℕ → ℕ → Option CellRange
span_in g given lens k = range_of g (stored_box given lens k)
