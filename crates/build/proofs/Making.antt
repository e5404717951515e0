-- The ways through `new`: refused, and made. What the writing asks is what the decision has tested. Assumes nothing.
use Rattle.std.proofs.Common.{Err, Ok}
use mathlib.Core.Path.{◌≡◌, refl, ap}
use mathlib.Core.List.{List}
use Prim.Native.Nat.{ℕ, ◌+◌, ◌*◌, ◌≤◌, ◌<◌}
use native.Mathlib.Nat.{le_trans, le_of_eq}
use native.Mathlib.Omega.{arith}
use lib.ListN.{length}
use lib.Ieee.{Float}
use Rattle.lists.specs.Lists.{joined, listed}
use Rattle.lists.specs.Parts.{padded}
use Rattle.num.specs.Ops.{zero_f}
use Rattle.grid.specs.declared.Grid.{Grid}
use Rattle.extent.specs.Extent.{cols_of, rows_of}
use Rattle.tables.specs.Tables.{Limits, items_of, cell_start}
use Rattle.site.specs.declared.Site.{Site}
use Rattle.site.specs.Tables.{Tables, tables, box_of}
use Rattle.build.specs.declared.Rooms.{Rooms}
use Rattle.build.specs.Stored.{first_in, points_of, box_numbers, boxes_table, polygons_table, owners_table, grid_by, grid_of, span_in}
use Rattle.build.specs.Refusals.{points_in, item_count, Counted}
use Rattle.build.specs.Checks.{Space}
use Rattle.build.specs.Outcome.{site_of, plan_of, tables_of, outcome_by, rooms_of, outcome, Does, span_at, Indexable}
use Rattle.build.proofs.Spans.{items_ext, starts_ext}
use Rattle.build.proofs.Deciding.{space, Going, going, some_columns, cells_limits}
use Rattle.build.proofs.Laid.{span_right, boxes_right}
use Rattle.refusal.specs.declared.Refusal.{Refusal}

module _ (width height : Float) (given : List Float) (lens : List ℕ) (room : Rooms) (s : Site) (w : Going width height given lens room s) where
  pub roomy : Space room (length lens) (points_in given) ((grid_of width height given lens).cols * (grid_of width height given lens).rows) (item_count (grid_of width height given lens) given lens)
  roomy = space room (length lens) (points_in given) ((grid_of width height given lens).cols * (grid_of width height given lens).rows) (item_count (grid_of width height given lens) given lens) w.fits

  pub limited : Limits (grid_of width height given lens)
  limited = cells_limits (grid_of width height given lens) cols rows w.few
    where
      cols : 0 < (grid_of width height given lens).cols
      cols = unfold grid_of grid_by cols_of in some_columns _ _

      rows : 0 < (grid_of width height given lens).rows
      rows = unfold grid_of grid_by rows_of in some_columns _ _

  -- ---- the head's fields
  pub grid_of_lem : s.grid ≡ grid_of width height given lens
  unfolding site_of
  grid_of_lem = ap (λ (x : Site). x.grid) w.is

  pub polygons_of : s.polygons ≡ length lens
  unfolding site_of
  polygons_of = ap (λ (x : Site). x.polygons) w.is

  -- ---- what `lay_out` asks
  pub layable : Counted given lens × (length given ≤ room.points) × (2 * length lens ≤ room.polygons) × (first_in lens (length lens) ≤ room.owners)
  layable =
      let r = roomy in
      (w.counts, omega (arith, w.counts.numbers_add_up, r.points_fit), r.polygons_fit, omega (arith, w.counts.numbers_add_up, r.owners_fit))

  -- ---- what `index` asks
  module _ (m n : ℕ) (points : List Float) (polygons : List ℕ) (p : points ≡ padded zero_f m (points_of given lens)) (q : polygons ≡ padded 0 n (polygons_table lens)) where
    spans : (g : Grid) (k : ℕ) → k < length lens → span_at g points polygons k ≡ span_in g given lens k
    spans g k h = rw (p, q) (span_right given lens w.counts m n k h g)

    pub indexable : Indexable s.grid points polygons s.polygons room.boxes room.starts room.items
    indexable =
        let r = roomy in
        let g = grid_of width height given lens in
        let e = ap length (items_ext (span_at g points polygons) (span_in g given lens) (length lens) g.cols (spans g) (g.cols * g.rows)) in
        rw (grid_of_lem, polygons_of)
        (record {
          limits = limited;
          few = w.counts.few_polygons;
          boxes_fit = r.boxes_fit;
          starts_fit = r.starts_fit;
          items_fit = le_trans (le_of_eq e) (unfold item_count in r.items_fit);
          few_items = le_trans (le_of_eq e) (unfold item_count in r.few_items);
        })

    -- ---- what is written is what is wanted
    pub boxes_made : (r : ℕ) (boxes : List Float) → boxes ≡ padded zero_f r (joined (λ k. box_numbers (box_of points polygons k)) s.polygons) → boxes ≡ padded zero_f r (boxes_table given lens)
    boxes_made r boxes e = rw (e, polygons_of, p, q) (ap (padded zero_f r) (boxes_right given lens w.counts m n))

    pub starts_made : (r : ℕ) (starts : List ℕ) → starts ≡ padded 0 r (listed (cell_start (span_at s.grid points polygons) s.polygons s.grid.cols) (s.grid.cols * s.grid.rows + 1))
        → starts ≡ padded 0 r (listed (cell_start (span_in s.grid given lens) (length lens) s.grid.cols) (s.grid.cols * s.grid.rows + 1))
    starts_made r starts e =
        rw (e, polygons_of) (ap (padded 0 r) (starts_ext (span_at s.grid points polygons) (span_in s.grid given lens) (length lens) s.grid.cols (spans s.grid) (s.grid.cols * s.grid.rows + 1)))

    pub items_made : (r : ℕ) (items : List ℕ) → items ≡ padded 0 r (items_of (span_at s.grid points polygons) s.polygons s.grid.cols (s.grid.cols * s.grid.rows))
        → items ≡ padded 0 r (items_of (span_in s.grid given lens) (length lens) s.grid.cols (s.grid.cols * s.grid.rows))
    items_made r items e =
        rw (e, polygons_of) (ap (padded 0 r) (items_ext (span_at s.grid points polygons) (span_in s.grid given lens) (length lens) s.grid.cols (spans s.grid) (s.grid.cols * s.grid.rows)))

-- ---- the outcome
module _ (width height : Float) (given : List Float) (lens : List ℕ) (lent : Tables) where
  pub refused_way : (number : Refusal) → plan_of width height given lens (rooms_of lent) ≡ Err number → Does (outcome width height given lens lent) (Err number) lent
  unfolding outcome outcome_by
  refused_way number e = rw e (record { says = refl; leaves = refl })

  pub made_way : (s : Site) → plan_of width height given lens (rooms_of lent) ≡ Ok s → (points boxes : List Float) (polygons owners starts items : List ℕ)
      → points ≡ padded zero_f (length lent.points) (points_of given lens) → polygons ≡ padded 0 (length lent.polygons) (polygons_table lens) → owners ≡ padded 0 (length lent.owners) (owners_table lens)
      → boxes ≡ padded zero_f (length lent.boxes) (joined (λ k. box_numbers (box_of points polygons k)) s.polygons)
      → starts ≡ padded 0 (length lent.starts) (listed (cell_start (span_at s.grid points polygons) s.polygons s.grid.cols) (s.grid.cols * s.grid.rows + 1))
      → items ≡ padded 0 (length lent.items) (items_of (span_at s.grid points polygons) s.polygons s.grid.cols (s.grid.cols * s.grid.rows))
      → Does (outcome width height given lens lent) (Ok s) (tables points boxes polygons owners starts items)
  unfolding outcome outcome_by tables_of
  made_way s e points boxes polygons owners starts items p q o b st it =
      let w = going width height given lens (rooms_of lent) s e in
      let b' = boxes_made width height given lens (rooms_of lent) s w (length lent.points) (length lent.polygons) points polygons p q (length lent.boxes) boxes b in
      let st' = starts_made width height given lens (rooms_of lent) s w (length lent.points) (length lent.polygons) points polygons p q (length lent.starts) starts st in
      let it' = items_made width height given lens (rooms_of lent) s w (length lent.points) (length lent.polygons) points polygons p q (length lent.items) items it in
      rw e (record { says = refl; leaves = same p b' q o st' it' })
    where
      same : {a a' b b' : List Float} {c c' d d' f f' g g' : List ℕ} → a ≡ a' → b ≡ b' → c ≡ c' → d ≡ d' → f ≡ f' → g ≡ g' → tables a b c d f g ≡ tables a' b' c' d' f' g'
      same h i j k l m = cc
