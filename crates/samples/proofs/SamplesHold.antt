-- THE CLAIM OF THE SAMPLES: the table of specs/Samples.antt has the rows that document 01 says, from any generator. Assumes nothing.
-- The two sites with squares are written out first, table by table, and shown to be what building makes: then each question is computed over them.
use Rattle.std.proofs.Common.{Option, Some, Ok}
use mathlib.Core.Path.{◌≡◌, refl, ap}
use mathlib.Core.Bool.{true, false, xor}
use mathlib.Core.List.{List, [], ◌∷◌, ◌++◌, map}
use Prim.Native.Nat.{ℕ, zero, suc, ◌+◌, ◌*◌, ◌<◌}
use native.Mathlib.Omega.{arith}
use lib.ListN.{length, replicate}
use lib.Ieee.{Float, binary64, of_int, of_bits, to_bits, round, add, sub, mul, div, neg, le, lt, eq, is_nan, to_unsigned, to_signed}
use Rattle.lists.specs.Lists.{listed}
use Rattle.lists.specs.Parts.{padded}
use Rattle.num.specs.Ops.{zero_f}
use Rattle.num.specs.Num.{abs_of, floor_of, min_of, max_of, clamp_of}
use Rattle.num.specs.Root.{sqrt_of}
use Rattle.geom.specs.Vec.{vec, cross_of, add_of, sub_of, mul_of}
use Rattle.geom.specs.Box.{include_of, box_up_to, from_points_of, union_of, is_empty_of, contains_of, width_of, height_of}
use Rattle.geom.specs.Ring.{crosses, inside_up_to, point_in_polygon_of, area_up_to, signed_area_of}
use Rattle.geom.specs.Segment.{is_flat, ray_segment_within, ray_segment_of}
use Rattle.rng.specs.declared.Rng.{Rng}
use Rattle.rng.specs.Rng as rng
use Rattle.bounds.specs.Domain.{in_domain, in_size}
use Rattle.grid.specs.declared.Grid.{Grid}
use Rattle.grid.specs.Range.{count_f, columns_of, cell_at, cell_index, range_by, range_of}
use Rattle.grid.specs.Boxes.{box_from, box_at}
use Rattle.grid.specs.Stamps.{stamped, firsts}
use Rattle.grid.specs.Entries.{cells_from, rows_from, entries_in}
use Rattle.grid.specs.Query as query
use Rattle.tables.specs.Tables as tabled
use Rattle.extent.specs.Boxes.{polygon_box_of}
use Rattle.extent.specs.Extent.{bounds_of, side_of, sides_of, cell_from, cell_size_of, cols_of, rows_of}
use Rattle.site.specs.declared.Site.{Site}
use Rattle.site.specs.Tables.{Tables, tables}
use Rattle.site.specs.Domain.{point_in_domain, box_in_domain, load_of, load_point_of, load_box_of}
use Rattle.site.specs.Soundness.{tables_long, counts_within, head_in_domain, points_in_domain, cell_right, same_box, box_right, boxes_right, cells_within, never_fall, starts_right, item_right, items_right, parts_inside, owned, all_owned, owns, all_own, sound_of}
use Rattle.walk.specs.Clipping.{clip_of, clip_box_of, index_of, axis_of, set_out_of, ray_start}
use Rattle.walk.specs.Steps.{cell_number, exit_of, moved_to, step_of, left}
use Rattle.walk.specs.Tours.{tour_in, tour, ray_tour}
use Rattle.sight.specs.Slabs.{ray_hits_aabb_of}
use Rattle.sight.specs.Holding as holding
use Rattle.sight.specs.Casting as casting
use Rattle.scene.specs.Asked.{asked, ray_in_domain}
use Rattle.scene.specs.Answers.{polygon_at_of, cast_ray_of}
use Rattle.scene.specs.Stamping.{polygons_near_of}
use Rattle.build.specs.Stored.{given_at, is_reversed, ordered_at, stored_at, stored_of, stored_box, stored_boxes, points_of, boxes_table, polygons_table, owners_table, grid_by, bounds_in, cell_in, grid_of, span_in}
use Rattle.build.specs.Refusals.{points_in, too_many, adds_up, numbers_in, all_inside, few_cells, item_count, has_room}
use Rattle.build.specs.Outcome.{Outcome, site_of, plan_by, plan_of, tables_of, outcome_by, rooms_of, outcome}
use Rattle.build.proofs.Spans.{items_ext, starts_ext}
use Rattle.samples.specs.Samples.{lent, built, square, site_a, twice, bare, clockwise, of, rows_by, table, expected}
use Rattle.grid.specs.declared.CellRange.{CellRange}

-- ---- building, where every polygon covers the same cells
module _ (w h : Float) (given : List Float) (lens : List ℕ) (room : Tables) (g : Grid) (span : Option CellRange)
    (grid_is : grid_of w h given lens ≡ g) (spans : (k : ℕ) → k < length lens → span_in g given lens k ≡ span) where
  abbrev items : List ℕ
  items = tabled.items_of (λ _. span) (length lens) g.cols (g.cols * g.rows)

  abbrev site : Site
  site = record { width = load_of w; height = load_of h; grid = g; polygons = length lens; points = points_in given; items = length items }

  abbrev filled : Tables
  filled =
      tables (padded zero_f (length room.points) (points_of given lens)) (padded zero_f (length room.boxes) (boxes_table given lens))
      (padded 0 (length room.polygons) (polygons_table lens)) (padded 0 (length room.owners) (owners_table lens))
      (padded 0 (length room.starts) (listed (tabled.cell_start (λ _. span) (length lens) g.cols) (g.cols * g.rows + 1)))
      (padded 0 (length room.items) items)

  items_are : tabled.items_of (span_in g given lens) (length lens) g.cols (g.cols * g.rows) ≡ items
  items_are = items_ext (span_in g given lens) (λ _. span) (length lens) g.cols spans (g.cols * g.rows)

  starts_are : listed (tabled.cell_start (span_in g given lens) (length lens) g.cols) (g.cols * g.rows + 1) ≡ listed (tabled.cell_start (λ _. span) (length lens) g.cols) (g.cols * g.rows + 1)
  starts_are = starts_ext (span_in g given lens) (λ _. span) (length lens) g.cols spans (g.cols * g.rows + 1)

  count_is : item_count g given lens ≡ length items
  unfolding item_count
  count_is = ap length items_are

  filled_is : tables_of g given lens room ≡ filled
  unfolding tables_of
  filled_is = rw (items_are, starts_are)

  outcome_is : too_many given lens ≡ false → adds_up given lens ≡ true → all_inside w h given ≡ true → few_cells g.cols g.rows ≡ true
      → has_room (rooms_of room) (length lens) (points_in given) (g.cols * g.rows) (length items) ≡ true
      → outcome w h given lens room ≡ record { answer = Ok site; left = filled }
  unfolding outcome outcome_by plan_of plan_by site_of
  outcome_is a b c d e = rw (a, b, c, grid_is, d, count_is, e, filled_is)

-- ---- the sites written out
-- both have the grid of P1, and their squares cover the cells of columns and rows 1 and 2
abbrev grid_a : Grid
grid_a = record { origin = vec zero_f zero_f; cell = count_f 2; inv_cell = of_bits binary64 0x3fe0_0000_0000_0000; cols = 6; rows = 6 }

abbrev span : Option CellRange
span = Some (record { c0 = 1; r0 = 1; c1 = 2; r1 = 2 })

-- n in each of the cells 7, 8, 13 and 14
abbrev starts_by : ℕ → List ℕ
starts_by n = replicate 8 0 ++ (n ∷ replicate 5 (2 * n)) ++ (3 * n ∷ replicate 22 (4 * n))

abbrev site_by : ℕ → Site
site_by n = record { width = count_f 10; height = count_f 10; grid = grid_a; polygons = n; points = 4 * n; items = 4 * n }

abbrev written_a : Outcome
written_a = record {
  answer = Ok (site_by 1);
  left =
      tables (map count_f square ++ replicate 8 zero_f) (map count_f (2 ∷ 2 ∷ 4 ∷ 4 ∷ []) ++ replicate 4 zero_f) (0 ∷ 4 ∷ 0 ∷ 0 ∷ []) (replicate 8 0) (starts_by 1)
      (replicate 8 0);
}

abbrev written_twice : Outcome
written_twice = record {
  answer = Ok (site_by 2);
  left =
      tables (map count_f (square ++ square)) (map count_f (2 ∷ 2 ∷ 4 ∷ 4 ∷ 2 ∷ 2 ∷ 4 ∷ 4 ∷ [])) (0 ∷ 4 ∷ 4 ∷ 4 ∷ []) (replicate 4 0 ++ replicate 4 1) (starts_by 2)
      (0 ∷ 1 ∷ 0 ∷ 1 ∷ 0 ∷ 1 ∷ 0 ∷ 1 ∷ []);
}

-- one square
one_grid : grid_of (count_f 10) (count_f 10) (map count_f square) (4 ∷ []) ≡ grid_a
unfolding of_int of_bits to_bits round add sub mul div neg le lt eq is_nan to_unsigned to_signed abs_of floor_of min_of max_of clamp_of sqrt_of cross_of include_of box_up_to from_points_of union_of is_empty_of width_of height_of area_up_to signed_area_of polygon_box_of load_of given_at is_reversed ordered_at stored_at stored_of stored_box stored_boxes bounds_of side_of sides_of cell_from cell_size_of columns_of cols_of rows_of grid_by bounds_in cell_in grid_of
one_grid = refl

one_spans : (k : ℕ) → k < 1 → span_in grid_a (map count_f square) (4 ∷ []) k ≡ span
unfolding of_int of_bits to_bits round add sub mul div neg le lt eq is_nan to_unsigned to_signed abs_of floor_of min_of max_of clamp_of sqrt_of cross_of include_of box_up_to from_points_of union_of is_empty_of width_of height_of area_up_to signed_area_of polygon_box_of load_of given_at is_reversed ordered_at stored_at stored_of stored_box cell_at cell_index range_by range_of span_in
one_spans zero h = refl
one_spans (suc k) h = absurd (omega (arith, h))

one_filled : outcome (count_f 10) (count_f 10) (map count_f square) (4 ∷ []) lent ≡ written_a
unfolding of_int of_bits to_bits round add sub mul div neg le lt eq is_nan to_unsigned to_signed abs_of floor_of min_of max_of clamp_of sqrt_of cross_of include_of box_up_to from_points_of union_of is_empty_of width_of height_of area_up_to signed_area_of polygon_box_of load_of given_at is_reversed ordered_at stored_at stored_of stored_box in_domain in_size too_many adds_up numbers_in all_inside has_room points_of boxes_table polygons_table owners_table
one_filled = outcome_is (count_f 10) (count_f 10) (map count_f square) (4 ∷ []) lent grid_a span one_grid one_spans refl refl refl refl refl

one_is : site_a ≡ written_a
unfolding built
one_is = one_filled

-- the square twice
two_grid : grid_of (count_f 10) (count_f 10) (map count_f (square ++ square)) (4 ∷ 4 ∷ []) ≡ grid_a
unfolding of_int of_bits to_bits round add sub mul div neg le lt eq is_nan to_unsigned to_signed abs_of floor_of min_of max_of clamp_of sqrt_of cross_of include_of box_up_to from_points_of union_of is_empty_of width_of height_of area_up_to signed_area_of polygon_box_of load_of given_at is_reversed ordered_at stored_at stored_of stored_box stored_boxes bounds_of side_of sides_of cell_from cell_size_of columns_of cols_of rows_of grid_by bounds_in cell_in grid_of
two_grid = refl

two_spans : (k : ℕ) → k < 2 → span_in grid_a (map count_f (square ++ square)) (4 ∷ 4 ∷ []) k ≡ span
unfolding of_int of_bits to_bits round add sub mul div neg le lt eq is_nan to_unsigned to_signed abs_of floor_of min_of max_of clamp_of sqrt_of cross_of include_of box_up_to from_points_of union_of is_empty_of width_of height_of area_up_to signed_area_of polygon_box_of load_of given_at is_reversed ordered_at stored_at stored_of stored_box cell_at cell_index range_by range_of span_in
two_spans zero h = refl
two_spans (suc zero) h = refl
two_spans (suc (suc k)) h = absurd (omega (arith, h))

two_filled : outcome (count_f 10) (count_f 10) (map count_f (square ++ square)) (4 ∷ 4 ∷ []) lent ≡ written_twice
unfolding of_int of_bits to_bits round add sub mul div neg le lt eq is_nan to_unsigned to_signed abs_of floor_of min_of max_of clamp_of sqrt_of cross_of include_of box_up_to from_points_of union_of is_empty_of width_of height_of area_up_to signed_area_of polygon_box_of load_of given_at is_reversed ordered_at stored_at stored_of stored_box in_domain in_size too_many adds_up numbers_in all_inside has_room points_of boxes_table polygons_table owners_table
two_filled = outcome_is (count_f 10) (count_f 10) (map count_f (square ++ square)) (4 ∷ 4 ∷ []) lent grid_a span two_grid two_spans refl refl refl refl refl

two_is : twice ≡ written_twice
unfolding built
two_is = two_filled

-- ---- the rows
rows_are : (g : Rng) → rows_by g written_a written_twice bare (built 10 10 clockwise (4 ∷ [])) ≡ expected
unfolding
    rows_by of built of_int of_bits to_bits round add sub mul div neg le lt eq is_nan to_unsigned to_signed abs_of floor_of min_of max_of clamp_of sqrt_of
    cross_of include_of box_up_to from_points_of union_of is_empty_of width_of height_of area_up_to signed_area_of polygon_box_of load_of given_at is_reversed ordered_at stored_at stored_of stored_box stored_boxes bounds_of side_of sides_of cell_from cell_size_of columns_of cols_of rows_of grid_by bounds_in cell_in grid_of
    cell_at cell_index range_by range_of span_in in_domain in_size too_many adds_up numbers_in all_inside has_room points_of boxes_table polygons_table owners_table
    item_count site_of plan_by plan_of tables_of outcome_by outcome
    add_of sub_of mul_of contains_of xor crosses inside_up_to point_in_polygon_of is_flat ray_segment_within ray_segment_of
    rng.range_of box_from box_at stamped firsts cells_from rows_from entries_in query.outcome_by query.outcome query.items_by query.items_at
    point_in_domain box_in_domain load_point_of load_box_of
    tables_long counts_within head_in_domain points_in_domain cell_right same_box box_right boxes_right cells_within never_fall starts_right item_right items_right parts_inside owned all_owned owns all_own sound_of
    clip_of clip_box_of index_of axis_of set_out_of ray_start cell_number exit_of moved_to step_of left tour_in tour ray_tour
    ray_hits_aabb_of holding.holds_point holding.higher_of holding.highest holding.polygon_at_of
    casting.edge_number casting.nearer_of casting.edges_up_to casting.edges_met casting.pushed casting.item_seen casting.items_seen casting.sighting_of casting.cast_ray_of
    asked ray_in_domain polygon_at_of cast_ray_of polygons_near_of
rows_are g = refl

-- THE CLAIM
pub samples_hold : (g : Rng) → table g ≡ expected
samples_hold g = rw (one_is, two_is) (rows_are g)
