-- A sample at the edge of the domain, computed by the definitions: cell (as bits), columns and rows. Document 01's own samples are in crate `samples`. Assumes nothing.
use Rattle.std.specs.Prelude.{◌≡◌, ℕ, List, [], ◌∷◌, map, negsuc, refl, Float}
use Rattle.std.specs.Float.{binary64}
use Rattle.std.specs.Float.Ieee.{of_int, of_bits, to_bits, add, sub, mul, div, le, lt, is_nan, to_unsigned}
use Rattle.num.specs.Num.{floor_of, min_of, max_of}
use Rattle.num.specs.Root.{sqrt_of}
use Rattle.geom.specs.declared.Aabb.{Aabb}
use Rattle.geom.specs.Box.{include_of, box_up_to, from_points_of, union_of, is_empty_of, width_of, height_of}
use Rattle.grid.specs.Range.{columns_of, count_f}
use Rattle.extent.specs.Boxes.{polygon_box_of}
use Rattle.extent.specs.Extent.{bounds_of, side_of, sides_of, cell_from, cell_size_of, cols_of, rows_of}

abbrev pub head_by : Float → Float → List Aabb → List ℕ
head_by w h bs =
    let b = bounds_of w h bs in
    let c = cell_size_of bs b in
    to_bits binary64 c ∷ cols_of b c ∷ rows_of b c ∷ []

-- the head of a site of width w and height h, whose polygons have these points
unfoldable pub head_of : ℕ → ℕ → List (List Float) → List ℕ
head_of w h ps = head_by (count_f w) (count_f h) (map polygon_box_of ps)

-- the most columns there are: a flat polygon at the left end of the domain, the site to its right end: cell 1, 2,000,001 columns (building then refuses: too many cells)
pub most_columns : head_of 1000000 0 ((of_int binary64 (negsuc 999999) ∷ count_f 0 ∷ of_int binary64 (negsuc 999998) ∷ count_f 0 ∷ of_int binary64 (negsuc 999998) ∷ count_f 0 ∷ []) ∷ []) ≡ 0x3ff0_0000_0000_0000 ∷ 2000001 ∷ 1 ∷ []
unfolding head_of polygon_box_of from_points_of box_up_to include_of union_of is_empty_of width_of height_of min_of max_of floor_of sqrt_of columns_of bounds_of side_of sides_of cell_from cell_size_of cols_of rows_of of_int of_bits to_bits add sub mul div le lt is_nan to_unsigned
most_columns = refl
