-- One refusal of each number, computed by the definitions. Document 01's own samples are in crate `samples`. Assumes nothing.
use Rattle.std.specs.Prelude.{◌≡◌, refl, List, [], ◌∷◌, map, ℕ, replicate}
use Rattle.std.specs.Float.Ieee.{of_int, of_bits, add, sub, mul, div, neg, le, lt, is_nan, to_unsigned}
use Rattle.num.specs.Num.{floor_of, min_of, max_of, clamp_of}
use Rattle.num.specs.Root.{sqrt_of}
use Rattle.num.specs.Ops.{zero_f}
use Rattle.geom.specs.Vec.{cross_of}
use Rattle.geom.specs.Box.{include_of, box_up_to, from_points_of, union_of, is_empty_of, width_of, height_of}
use Rattle.geom.specs.Ring.{area_up_to, signed_area_of}
use Rattle.bounds.specs.Domain.{in_domain, in_size}
use Rattle.grid.specs.Range.{columns_of, count_f, cell_at, cell_index, range_by, range_of}
use Rattle.extent.specs.Boxes.{polygon_box_of}
use Rattle.extent.specs.Extent.{bounds_of, side_of, sides_of, cell_from, cell_size_of, cols_of, rows_of}
use Rattle.site.specs.Domain.{load_of}
use Rattle.site.specs.Tables.{tables}
use Rattle.build.specs.Stored.{given_at, is_reversed, ordered_at, stored_at, stored_of, stored_box, stored_boxes, grid_by, bounds_in, cell_in, grid_of, span_in}
use Rattle.build.specs.Refusals.{too_many, adds_up, numbers_in, all_inside, item_count, has_room}
use Rattle.build.specs.Outcome.{site_of, plan_by, plan_of, outcome_by, outcome}
use Rattle.refusal.specs.Numbers.{status_of}

-- the status of building a site whose starts have room for so many
unfoldable pub answered : ℕ → ℕ → List ℕ → List ℕ → ℕ → ℕ
answered w h points lens starts =
    status_of (outcome (count_f w) (count_f h) (map count_f points) lens (tables (replicate 8 zero_f) (replicate 4 zero_f) (replicate 2 0) (replicate 4 0) (replicate starts 0) (replicate 4 0))).answer

-- document 01's site A has 36 cells: with room for one start fewer than it takes, too wide, with a coordinate too large, its lengths wrong; and too many polygons
pub answers :
    answered 10 10 (2 ∷ 2 ∷ 4 ∷ 2 ∷ 4 ∷ 4 ∷ 2 ∷ 4 ∷ []) (4 ∷ []) 36
    ∷ answered 1000000 1000000 (2 ∷ 2 ∷ 4 ∷ 2 ∷ 4 ∷ 4 ∷ 2 ∷ 4 ∷ []) (4 ∷ []) 37
    ∷ answered 10 10 (2 ∷ 2 ∷ 4 ∷ 2 ∷ 4 ∷ 4 ∷ 2 ∷ 1000001 ∷ []) (4 ∷ []) 37
    ∷ answered 10 10 (2 ∷ 2 ∷ 4 ∷ 2 ∷ 4 ∷ 4 ∷ 2 ∷ 4 ∷ []) (3 ∷ []) 37
    ∷ answered 10 10 [] (replicate 4097 0) 37
    ∷ []
    ≡ 5 ∷ 4 ∷ 1 ∷ 3 ∷ 2 ∷ []
unfolding answered outcome outcome_by plan_of plan_by site_of too_many adds_up all_inside numbers_in item_count has_room in_domain in_size grid_of grid_by bounds_in cell_in span_in stored_boxes stored_box stored_of stored_at ordered_at is_reversed given_at signed_area_of area_up_to cross_of load_of polygon_box_of from_points_of box_up_to include_of union_of is_empty_of width_of height_of min_of max_of clamp_of floor_of sqrt_of columns_of cell_at cell_index range_by range_of bounds_of side_of sides_of cell_from cell_size_of cols_of rows_of of_int of_bits add sub mul div neg le lt is_nan to_unsigned
answers = refl
