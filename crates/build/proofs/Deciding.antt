-- The ways through the decision: each refusal, and what is known of a site that is to be made. Assumes nothing.
use Rattle.std.proofs.Common.{Err, Ok, Result}
use mathlib.Core.Path.{◌≡◌, refl}
use mathlib.Core.Bool.{Bool, true, false, cond}
use mathlib.Core.List.{List}
use Prim.Native.Nat.{ℕ, ◌*◌, ◌≤◌, ◌<◌}
use native.Mathlib.Nat.{le_trans, le-mul_of_pos_right, mul_comm}
use native.Mathlib.Omega.{arith}
use lib.ListN.{length}
use lib.Dec.{ltb}
use lib.Ieee.{Float}
use borrow.Author.Tests.{ltb-true, ltb-false, leb-true, eqb-true, le-leb}
use Rattle.lists.proofs.AllTo.{both, neither}
use Rattle.num.specs.Ops.{◌⊘◌, one_f}
use Rattle.geom.specs.declared.Aabb.{Aabb}
use Rattle.geom.specs.Box.{width_of, height_of}
use Rattle.grid.specs.declared.Grid.{Grid}
use Rattle.grid.specs.Range.{columns_of}
use Rattle.extent.specs.declared.Sides.{Sides}
use Rattle.extent.specs.Extent.{bounds_of, sides_of, cell_from, cell_size_of, cols_of, rows_of}
use Rattle.tables.specs.Tables.{Limits}
use Rattle.site.specs.declared.Site.{Site}
use Rattle.site.specs.Domain.{load_of}
use Rattle.build.specs.declared.Rooms.{Rooms}
use Rattle.build.specs.Stored.{first_in, stored_boxes, grid_by, bounds_in, cell_in, grid_of}
use Rattle.build.specs.Refusals.{points_in, too_many, adds_up, all_inside, few_cells, item_count, has_room, Counted}
use Rattle.build.specs.Checks.{Space}
use Rattle.build.specs.Outcome.{site_of, plan_by, plan_of}
use Rattle.refusal.specs.declared.Refusal.{Refusal}
use Rattle.refusal.specs.declared.Refusal.TheVariants.{LengthsDiffer, NoTableRoom, OutsideDomain, TooMany, TooManyCells}

-- ---- the numbers of cells
pub some_columns : (w cell : Float) → 0 < columns_of w cell
unfolding columns_of
some_columns w cell = omega arith

pub cells_limits : (g : Grid) → 0 < g.cols → 0 < g.rows → few_cells g.cols g.rows ≡ true → Limits g
cells_limits g p q e = record { has_cols = p; has_rows = q; small = leb-true (g.cols * g.rows) 1048576 e }

pub few_columns : (a b : ℕ) → 0 < b → few_cells a b ≡ true → a ≤ 1048576
few_columns a b h e = le_trans (le-mul_of_pos_right a h) (leb-true (a * b) 1048576 e)

pub few_rows : (a b : ℕ) → 0 < a → few_cells a b ≡ true → b ≤ 1048576
few_rows a b h e = le_trans (le-mul_of_pos_right b h) (le_trans (rw (mul_comm b a) (omega arith)) (leb-true (a * b) 1048576 e))

-- ---- the room
module _ (width height : Float) (g : Grid) (given : List Float) (lens : List ℕ) (room : Rooms) (l : Limits g) (n : ℕ) (e : n ≡ item_count g given lens)
    (r : Bool) (d : r ≡ has_room room (length lens) (points_in given) (g.cols * g.rows) n) where
  few : few_cells g.cols g.rows ≡ true
  few = le-leb (g.cols * g.rows) 1048576 l.small

  pub no_room : r ≡ false → Err NoTableRoom ≡ plan_by width height g given lens room
  unfolding plan_by
  no_room f = rw (few, ← e, ← d, f)

  pub some_room : (w h : Float) → r ≡ true → w ≡ load_of width → h ≡ load_of height
      → Ok (record { width = w; height = h; grid = g; polygons = length lens; points = points_in given; items = n }) ≡ plan_by width height g given lens room
  unfolding plan_by site_of
  some_room w h f p q = rw (few, ← e, ← d, f, p, q)

-- ---- the room, table by table
pub space : (room : Rooms) (polygons points cells items : ℕ) → has_room room polygons points cells items ≡ true → Space room polygons points cells items
unfolding has_room
space room polygons points cells items e =
    let a = both _ _ e in
    let b = both _ _ a.0 in
    let c = both _ _ b.0 in
    let d = both _ _ c.0 in
    let f = both _ _ d.0 in
    let g = both _ _ f.0 in
    record {
      points_fit = leb-true _ _ g.0;
      boxes_fit = leb-true _ _ g.1;
      polygons_fit = leb-true _ _ f.1;
      owners_fit = leb-true _ _ d.1;
      starts_fit = ltb-true _ _ c.1;
      items_fit = leb-true _ _ b.1;
      few_items = leb-true _ _ a.1;
    }

-- ---- the grid
module _ (width height : Float) (given : List Float) (lens : List ℕ) (bounds : Aabb) (sides : Sides) (cell : Float) (cols rows : ℕ)
    (b : bounds ≡ bounds_of (load_of width) (load_of height) (stored_boxes given lens)) (s : sides ≡ sides_of (stored_boxes given lens)) (c : cell ≡ cell_from sides bounds)
    (p : cols ≡ columns_of (width_of bounds) cell) (q : rows ≡ columns_of (height_of bounds) cell) where
  pub grid_is : record { origin = bounds.min; cell = cell; inv_cell = one_f ⊘ cell; cols = cols; rows = rows } ≡ grid_of width height given lens
  unfolding grid_of grid_by bounds_in cell_in cell_size_of cols_of rows_of
  grid_is = rw (p, q, c, s, b)

  pub many_cells : (room : Rooms) (r : Bool) → r ≡ few_cells cols rows → r ≡ false → Err TooManyCells ≡ plan_by width height (grid_of width height given lens) given lens room
  unfolding plan_by
  many_cells room r d f =
      let g : record { origin = bounds.min; cell = cell; inv_cell = one_f ⊘ cell; cols = cols; rows = rows } ≡ grid_of width height given lens = grid_is in
      rw (← g, ← d, f)

-- ---- the tests on what is given
module _ (width height : Float) (given : List Float) (lens : List ℕ) (room : Rooms) where
  pub too_many_way : too_many given lens ≡ true → Err TooMany ≡ plan_of width height given lens room
  unfolding plan_of
  too_many_way e = rw e

  module _ (a : too_many given lens ≡ false) where
    pub not_adding : adds_up given lens ≡ false → Err LengthsDiffer ≡ plan_of width height given lens room
    unfolding plan_of
    not_adding e = rw (a, e)

    module _ (b : adds_up given lens ≡ true) where
      pub outside_way : all_inside width height given ≡ false → Err OutsideDomain ≡ plan_of width height given lens room
      unfolding plan_of
      outside_way e = rw (a, b, e)

      pub inside_way : all_inside width height given ≡ true → plan_by width height (grid_of width height given lens) given lens room ≡ plan_of width height given lens room
      unfolding plan_of
      inside_way e = rw (a, b, e)

pub few_polygons : (given : List Float) (lens : List ℕ) → too_many given lens ≡ false → length lens ≤ 4096
unfolding too_many
few_polygons given lens e = ltb-false 4096 (length lens) (neither (ltb 4096 (length lens)) (ltb 65536 (points_in given)) e).0

pub counted : (given : List Float) (lens : List ℕ) → too_many given lens ≡ false → adds_up given lens ≡ true → Counted given lens
unfolding too_many adds_up
counted given lens e f =
    let m : points_in given ≤ 65536 = ltb-false 65536 (points_in given) (neither (ltb 4096 (length lens)) (ltb 65536 (points_in given)) e).1 in
    let s : 2 * first_in lens (length lens) ≡ length given = eqb-true (2 * first_in lens (length lens)) (length given) f in
    record { few_polygons = ltb-false 4096 (length lens) (neither (ltb 4096 (length lens)) (ltb 65536 (points_in given)) e).0; few_points = omega arith; numbers_add_up = s }

-- ---- a site that is to be made
pub record Going (width height : Float) (given : List Float) (lens : List ℕ) (room : Rooms) (s : Site) : Type 0 where
  pub counts : Counted given lens
  pub inside : all_inside width height given ≡ true
  pub few : few_cells (grid_of width height given lens).cols (grid_of width height given lens).rows ≡ true
  pub fits : has_room room (length lens) (points_in given) ((grid_of width height given lens).cols * (grid_of width height given lens).rows) (item_count (grid_of width height given lens) given lens) ≡ true
  pub is : s ≡ site_of width height (grid_of width height given lens) given lens

never : {A : Type 0} {n : Refusal} {s : Site} → ◌≡◌ {A = Result Site Refusal} (Err n) (Ok s) → A
never e = let z : ◌≡◌ {A = ℕ} 0 1 = cc in absurd (omega arith)

on_true : (t : Bool) (p : Result Site Refusal) (n : Refusal) (s : Site) → cond t p (Err n) ≡ Ok s → (t ≡ true) × (p ≡ Ok s)
on_true true p n s e = (refl, e)
on_true false p n s e = never e

on_false : (t : Bool) (p : Result Site Refusal) (n : Refusal) (s : Site) → cond t (Err n) p ≡ Ok s → (t ≡ false) × (p ≡ Ok s)
on_false true p n s e = never e
on_false false p n s e = (refl, e)

pub going : (width height : Float) (given : List Float) (lens : List ℕ) (room : Rooms) (s : Site) → plan_of width height given lens room ≡ Ok s → Going width height given lens room s
unfolding plan_of plan_by
going width height given lens room s e =
    let a = on_false (too_many given lens) _ TooMany s e in
    let b = on_true (adds_up given lens) _ LengthsDiffer s a.1 in
    let d = on_true (all_inside width height given) _ OutsideDomain s b.1 in
    let f = on_true (few_cells (grid_of width height given lens).cols (grid_of width height given lens).rows) _ TooManyCells s d.1 in
    let g = on_true (has_room room (length lens) (points_in given) ((grid_of width height given lens).cols * (grid_of width height given lens).rows) (item_count (grid_of width height given lens) given lens)) _ NoTableRoom s f.1 in
    record { counts = counted given lens a.0 b.0; inside = d.0; few = f.0; fits = g.0; is = same g.1 }
  where
    same : {x y : Site} → ◌≡◌ {A = Result Site Refusal} (Ok x) (Ok y) → y ≡ x
    same p = cc
