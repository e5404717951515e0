-- WHAT BUILDING MAKES IS INDEXED: the starts and the items that `new` leaves are those that `tables::build` makes of its grid and its boxes, so that what is shown
-- of such tables (demand 3 of the box query, crate `tables`) holds of every site built; and the grid is the one of the boxes left. Assumes nothing.
use Rattle.std.proofs.Common.{Ok}
use mathlib.Core.Path.{◌≡◌, sym, ap, ◌∙◌, subst}
use mathlib.Core.List.{List}
use Prim.Native.Nat.{ℕ, ◌+◌, ◌-◌, ◌*◌, ◌≤◌, ◌<◌}
use native.Mathlib.Omega.{arith}
use lib.ListN.{length, replicate}
use lib.Ieee.{Float}
use Rattle.lists.specs.Lists.{joined}
use Rattle.lists.specs.Parts.{padded}
use Rattle.lists.proofs.Zeros.{length_padded}
use Rattle.num.specs.Ops.{zero_f}
use Rattle.geom.specs.declared.Aabb.{Aabb}
use Rattle.grid.specs.Boxes.{box_at}
use Rattle.grid.specs.declared.Grid.{Grid}
use Rattle.grid.specs.Range.{range_of}
use Rattle.grid.specs.Stamps.{Fresh}
use Rattle.grid.specs.Query as query
use Rattle.extent.specs.Boxes.{boxes_of}
use Rattle.extent.specs.Extent.{bounds_of, cell_size_of}
use Rattle.extent.proofs.SoundHead.{table_boxes}
use Rattle.tables.proofs.BuiltQuery.{Demand, demand}
use Rattle.tables.specs.Tables as tabled
use Rattle.tables.proofs.Whole as whole
use Rattle.site.specs.declared.Site.{Site}
use Rattle.site.specs.Domain.{load_of}
use Rattle.site.specs.Tables.{Tables}
use Rattle.build.specs.Stored.{stored_box, stored_boxes, box_numbers, boxes_table, grid_by, bounds_in, cell_in, grid_of, span_in}
use Rattle.build.specs.Refusals.{item_count}
use Rattle.build.specs.Outcome.{site_of, plan_of, tables_of, rooms_of, outcome, Does}
use Rattle.build.proofs.Spans.{items_ext, starts_ext, table_box}
use Rattle.build.proofs.Deciding.{Going, going}
use Rattle.build.proofs.Making.{roomy, limited, grid_of_lem}
use Rattle.build.proofs.BuiltSound.{plan_of_lem, boxes_length}

-- the boxes in the table
boxes_in : (given : List Float) (lens : List ℕ) (m k : ℕ) → k < length lens → box_at (padded zero_f m (boxes_table given lens)) k ≡ stored_box given lens k
unfolding boxes_table
boxes_in given lens m k h = table_box (stored_box given lens) (length lens) k (replicate (m - length (joined (λ j. box_numbers (stored_box given lens j)) (length lens))) zero_f) h

-- what the theorem says of a site s with the tables left, where starts and items were lent
pub record Indexed (s : Site) (left : Tables) (starts items : List ℕ) : Type 0 where
  pub buildable : tabled.Buildable s.grid left.boxes s.polygons
  pub built : tabled.Does (tabled.outcome s.grid left.boxes s.polygons starts items) (Ok s.items) left.starts left.items
  -- the grid is the one of the site's width and height and of its boxes
  pub over_boxes : s.grid ≡ grid_by (bounds_of s.width s.height (boxes_of left.boxes s.polygons)) (cell_size_of (boxes_of left.boxes s.polygons) (bounds_of s.width s.height (boxes_of left.boxes s.polygons)))

module _ (width height : Float) (given : List Float) (lens : List ℕ) (lent : Tables) (s : Site) (w : Going width height given lens (rooms_of lent) s) where
  boxes_long : length (padded zero_f (length lent.boxes) (boxes_table given lens)) ≡ length lent.boxes
  boxes_long =
      let r = roomy width height given lens (rooms_of lent) s w in
      length_padded zero_f (length lent.boxes) (boxes_table given lens) (omega (arith, r.boxes_fit, boxes_length given lens))

  spans : (g : Grid) (k : ℕ) → k < length lens → span_in g given lens k ≡ tabled.span_of g (padded zero_f (length lent.boxes) (boxes_table given lens)) k
  unfolding span_in tabled.span_of
  spans g k h = ap (range_of g) (sym (boxes_in given lens (length lent.boxes) k h))

  all_boxes : boxes_of (padded zero_f (length lent.boxes) (boxes_table given lens)) (length lens) ≡ stored_boxes given lens
  unfolding stored_boxes
  all_boxes =
      let r = roomy width height given lens (rooms_of lent) s w in
      let e : length (padded zero_f (length lent.boxes) (boxes_table given lens)) ≡ length lent.boxes = boxes_long in
      table_boxes (padded zero_f (length lent.boxes) (boxes_table given lens)) (length lens) (stored_box given lens) (omega (arith, r.boxes_fit)) (boxes_in given lens (length lent.boxes))

  indexed : Indexed (site_of width height (grid_of width height given lens) given lens) (tables_of (grid_of width height given lens) given lens lent) lent.starts lent.items
  unfolding site_of tables_of item_count
  indexed =
      let g = grid_of width height given lens in
      let n = length lens in
      let boxes = padded zero_f (length lent.boxes) (boxes_table given lens) in
      let r = roomy width height given lens (rooms_of lent) s w in
      let size : length boxes ≡ length lent.boxes = boxes_long in
      let items = items_ext (span_in g given lens) (tabled.span_of g boxes) n g.cols (spans g) (g.cols * g.rows) in
      let starts = starts_ext (span_in g given lens) (tabled.span_of g boxes) n g.cols (spans g) (g.cols * g.rows + 1) in
      record {
        buildable = record { limits = limited width height given lens (rooms_of lent) s w; few = w.counts.few_polygons; long = omega (arith, r.boxes_fit) };
        built =
            whole.made (tabled.span_of g boxes) n g.cols (g.cols * g.rows) lent.starts lent.items (length (tabled.items_of (span_in g given lens) n g.cols (g.cols * g.rows))) (ap length items)
            r.starts_fit r.items_fit r.few_items _ _ (ap (padded 0 (length lent.starts)) starts) (ap (padded 0 (length lent.items)) items);
        over_boxes = over;
      }
    where
      over : grid_of width height given lens ≡ grid_by (bounds_of (load_of width) (load_of height) (boxes_of (padded zero_f (length lent.boxes) (boxes_table given lens)) (length lens)))
          (cell_size_of (boxes_of (padded zero_f (length lent.boxes) (boxes_table given lens)) (length lens)) (bounds_of (load_of width) (load_of height) (boxes_of (padded zero_f (length lent.boxes) (boxes_table given lens)) (length lens))))
      over = unfold grid_of bounds_in cell_in in rw all_boxes

-- THE THEOREM
pub built_index : (width height : Float) (given : List Float) (lens : List ℕ) (lent left : Tables) (s : Site) → Does (outcome width height given lens lent) (Ok s) left → Indexed s left lent.starts lent.items
unfolding outcome
built_index width height given lens lent left s d =
    let p = plan_of_lem (plan_of width height given lens (rooms_of lent)) given lens lent left s d in
    let w = going width height given lens (rooms_of lent) s p.0 in
    let t = tables_of (grid_of width height given lens) given lens lent in
    let e : left ≡ t = p.1 ∙ ap (λ (x : Grid). tables_of x given lens lent) (grid_of_lem width height given lens (rooms_of lent) s w) in
    subst (λ (x : Tables). Indexed s x lent.starts lent.items) (sym e) (subst (λ (x : Site). Indexed x t lent.starts lent.items) (sym w.is) (indexed width height given lens lent s w))

-- DEMAND 3 OF THE BOX QUERY, of a site that building made: with fresh stamps, no fewer than the polygons, ids are listed once and exactly where the ranges share a cell,
-- and the entries read are those that the cells hold
pub built_query : (width height : Float) (given : List Float) (lens : List ℕ) (lent left : Tables) (s : Site) → Does (outcome width height given lens lent) (Ok s) left
    → (b : Aabb) (marks : List ℕ) (epoch room : ℕ) → s.polygons ≤ length marks → Fresh epoch marks
    → Demand s.grid (tabled.span_of s.grid left.boxes) s.polygons b room (query.outcome s.grid b left.starts left.items marks epoch room)
built_query width height given lens lent left s d =
    let x = built_index width height given lens lent left s d in
    demand s.grid left.boxes s.polygons lent.starts lent.items left.starts left.items s.items x.buildable x.built
