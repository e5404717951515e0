-- WHAT BUILDING MAKES IS SOUND (document 01, "Sound tables"): wherever `new` answers with a site, the six tables that it leaves pass the test of soundness
-- that every question asks first. Assumes nothing.
use Rattle.std.proofs.Common.{Option, Err, Ok, Result, None}
use mathlib.Core.Path.{◌≡◌, refl, sym, ap, ◌∙◌}
use mathlib.Core.Logic.{⊎_elim}
use mathlib.Core.Bool.{true, false, false≢true}
use mathlib.Core.List.{List, [], ◌∷◌}
use Prim.Native.Nat.{ℕ, ◌+◌, ◌-◌, ◌*◌, ◌≤◌, ◌<◌}
use native.Mathlib.Nat.{le_trans, le_of_eq}
use native.Mathlib.Omega.{arith}
use lib.ListN.{length, get_or, replicate, length-replicate}
use lib.Ieee.{Float, nan, inf, le, lt, eq}
use Rattle.lists.specs.Lists.{joined}
use Rattle.lists.specs.Parts.{padded}
use Rattle.lists.specs.Members.{All}
use Rattle.lists.proofs.Cases.{lt_or_le}
use Rattle.lists.proofs.Joined.{all_joined}
use Rattle.lists.proofs.Members.{all_at, in_all}
use Rattle.lists.proofs.Sums.{sum_to_const}
use Rattle.lists.proofs.Zeros.{length_padded, get_d_padded}
use Rattle.num.specs.Ops.{◌⊘◌, zero_f, one_f}
use Rattle.geom.specs.Box.{empty_box, is_empty_of}
use Rattle.bounds.specs.Domain.{in_domain}
use Rattle.grid.specs.Boxes.{box_at}
use Rattle.grid.specs.declared.Grid.{Grid}
use Rattle.grid.specs.Range.{range_of}
use Rattle.grid.proofs.Ranges.{empty_none}
use Rattle.extent.specs.Sound.{SoundHead}
use Rattle.extent.proofs.SoundHead.{head_sound}
use Rattle.tables.specs.Tables.{covers, cell_items, items_of}
use Rattle.tables.proofs.BuiltTables as tabled
use Rattle.site.specs.declared.Site.{Site}
use Rattle.site.specs.Domain.{load_of, point_in_domain}
use Rattle.site.specs.Tables.{Tables, len_of, point_at, owner_at, item_at, box_of}
use Rattle.site.specs.Soundness.{same_box, sound_of, Sound}
use Rattle.site.proofs.SoundLaws.{tested}
use Rattle.build.specs.Stored.{len_in, first_in, stored_of, stored_box, stored_boxes, points_of, box_numbers, boxes_table, polygons_table, owners_table, grid_by, bounds_in, cell_in, grid_of, span_in}
use Rattle.build.specs.Refusals.{points_in, item_count, Counted}
use Rattle.build.specs.Checks.{Inside}
use Rattle.build.specs.Outcome.{site_of, plan_of, tables_of, outcome_by, rooms_of, outcome, Does}
use Rattle.build.proofs.Orders.{held, points_length, box_few}
use Rattle.build.proofs.Writing.{blocks_length}
use Rattle.build.proofs.Spans.{table_box}
use Rattle.build.proofs.Deciding.{Going, going}
use Rattle.build.proofs.Loading.{load_size}
use Rattle.build.proofs.Domain.{InDomain, stored_in, box_same}
use Rattle.build.proofs.Laid.{first_is, len_is, box_is_right, owner_is, block_of}
use Rattle.build.proofs.Making.{roomy, limited, grid_of_lem}
use Rattle.build.proofs.RefusedWhen.{inside}
use Rattle.grid.specs.declared.CellRange.{CellRange}
use Rattle.refusal.specs.declared.Refusal.{Refusal}

-- ---- the head
pub head : (width height : Float) (given : List Float) (lens : List ℕ) → length lens ≤ 4096 → Inside width height given → SoundHead (bounds_in width height given lens) (cell_in width height given lens)
unfolding bounds_in cell_in stored_boxes stored_box
head width height given lens f i =
    head_sound (load_of width) (load_of height) (length lens) (stored_of given lens)
    (record { width_in = load_size width i.width_in; height_in = load_size height i.height_in; few = f; points_are_in = λ k l. unfold stored_of in stored_in given (first_in lens k) (len_in lens k) i.numbers_in_domain })

-- ---- how long the tables are
polygons_length : (lens : List ℕ) → length (polygons_table lens) ≡ length lens * 2
unfolding polygons_table
polygons_length lens = blocks_length (λ k. first_in lens k ∷ len_in lens k ∷ []) (λ _. 2) (length lens) (λ k h. refl) ∙ sum_to_const 2 (length lens)

owners_length : (lens : List ℕ) → length (owners_table lens) ≡ first_in lens (length lens)
unfolding owners_table
owners_length lens = blocks_length (λ k. replicate (len_in lens k) k) (len_in lens) (length lens) (λ k h. length-replicate (len_in lens k) k)

pub boxes_length : (given : List Float) (lens : List ℕ) → length (boxes_table given lens) ≡ length lens * 4
unfolding boxes_table
boxes_length given lens = blocks_length (λ k. box_numbers (stored_box given lens k)) (λ _. 4) (length lens) (λ k h. refl) ∙ sum_to_const 4 (length lens)

all_points_length : (given : List Float) (lens : List ℕ) → Counted given lens → length (points_of given lens) ≡ length given
unfolding points_of
all_points_length given lens c = points_length given lens (length lens) c (le_of_eq refl) ∙ c.numbers_add_up

-- ---- the items name polygons of three points or more
corner : (g : Grid) (given : List Float) (lens : List ℕ) (k c : ℕ) → Counted given lens → k < length lens → covers g.cols (span_in g given lens k) c ≡ true → 3 ≤ len_in lens k
corner g given lens k c d h e = ⊎_elim (λ l. absurd (false≢true (sym (ap (λ (s : (Option CellRange)). covers g.cols s c) (none l)) ∙ e))) (λ l. l) (lt_or_le (len_in lens k) 3)
  where
    hollow : is_empty_of empty_box ≡ true
    hollow = unfold is_empty_of le in refl

    none : len_in lens k < 3 → span_in g given lens k ≡ None
    none l =
        unfold span_in stored_box stored_of in
        ap (range_of g) (sym (box_few given (first_in lens k) (len_in lens k) (held given lens k d h) l)) ∙ empty_none g empty_box hollow

all_corners : (g : Grid) (given : List Float) (lens : List ℕ) (cells : ℕ) → Counted given lens → All (λ k. 3 ≤ len_in lens k) (items_of (span_in g given lens) (length lens) g.cols cells)
all_corners g given lens cells d =
    all_joined (λ k. 3 ≤ len_in lens k) (cell_items (span_in g given lens) (length lens) g.cols) cells
    (λ c h. in_all (λ k. 3 ≤ len_in lens k) (cell_items (span_in g given lens) (length lens) g.cols c)
    (λ k i. let v = tabled.item_in (span_in g given lens) (length lens) g.cols c k i in corner g given lens k c d v.0 v.1))

-- ---- the owners
owned : (lens : List ℕ) (m i : ℕ) → i < first_in lens (length lens)
    → (k : ℕ) × (k < length lens) × (first_in lens k ≤ i) × (i < first_in lens k + len_in lens k) × (owner_at (padded 0 m (owners_table lens)) i ≡ k)
owned lens m i h =
    let b = block_of (len_in lens) (length lens) i h in
    let e : first_in lens b.at + (i - first_in lens b.at) ≡ i = omega (arith, b.from) in
    (b.at, b.below, b.from, b.upto, ap (owner_at (padded 0 m (owners_table lens))) (sym e) ∙ owner_is lens m b.at (i - first_in lens b.at) b.below (omega (arith, b.from, b.upto)))

-- ---- the points
point_placed : (given : List Float) (lens : List ℕ) (m : ℕ) → Counted given lens → InDomain (points_of given lens) → (i : ℕ) → i < points_in given → point_in_domain (point_at (padded zero_f m (points_of given lens)) i) ≡ true
unfolding point_in_domain
point_placed given lens m c h i l = rw (at (2 * i) (omega arith), at (2 * i + 1) (omega arith))
  where
    at : (j : ℕ) → j < length given → in_domain (get_or (padded zero_f m (points_of given lens)) j nan) ≡ true
    at j q =
        let k : j < length (points_of given lens) = omega (arith, all_points_length given lens c) in
        rw (get_d_padded zero_f m (points_of given lens) j nan k) (all_at (λ x. in_domain x ≡ true) (points_of given lens) j nan h k)

all_placed : (given : List Float) (lens : List ℕ) → ((i : ℕ) → i < length given → in_domain (get_or given i nan) ≡ true) → InDomain (points_of given lens)
unfolding points_of
all_placed given lens h = all_joined (λ x. in_domain x ≡ true) (stored_of given lens) (length lens) (λ k l. unfold stored_of in stored_in given (first_in lens k) (len_in lens k) h)

-- ---- the boxes
box_placed : (given : List Float) (lens : List ℕ) (m n r k : ℕ) → Counted given lens → ((i : ℕ) → i < length given → in_domain (get_or given i nan) ≡ true) → k < length lens
    → same_box (box_at (padded zero_f r (boxes_table given lens)) k) (box_of (padded zero_f m (points_of given lens)) (padded 0 n (polygons_table lens)) k) ≡ true
unfolding boxes_table
box_placed given lens m n r k c h l =
    rw (box_is_right given lens c m n k l, table_box (stored_box given lens) (length lens) k (replicate (r - length (joined (λ j. box_numbers (stored_box given lens j)) (length lens))) zero_f) l)
    (unfold stored_box stored_of in box_same _ (stored_in given (first_in lens k) (len_in lens k) h))

-- ---- the items
module _ (g : Grid) (given : List Float) (lens : List ℕ) (a b : ℕ) (c : Counted given lens) (fit : g.cols * g.rows < a)
    (room : length (items_of (span_in g given lens) (length lens) g.cols (g.cols * g.rows)) ≤ b) where
  item_below : (i : ℕ) → i < length (items_of (span_in g given lens) (length lens) g.cols (g.cols * g.rows))
      → item_at (padded 0 b (items_of (span_in g given lens) (length lens) g.cols (g.cols * g.rows))) i < length lens
  item_below i l =
      tabled.built_named (span_in g given lens) (length lens) g.cols g.rows a b fit room (length lens) (le_of_eq refl) i
      (omega (arith, tabled.last_is (span_in g given lens) (length lens) g.cols g.rows a b fit room))

  item_corners : (m i : ℕ) → i < length (items_of (span_in g given lens) (length lens) g.cols (g.cols * g.rows))
      → 3 ≤ len_of (padded 0 m (polygons_table lens)) (item_at (padded 0 b (items_of (span_in g given lens) (length lens) g.cols (g.cols * g.rows))) i)
  item_corners m i l =
      rw (len_is lens m _ (item_below i l), get_d_padded 0 b (items_of (span_in g given lens) (length lens) g.cols (g.cols * g.rows)) i 0 l)
      (all_at (λ k. 3 ≤ len_in lens k) (items_of (span_in g given lens) (length lens) g.cols (g.cols * g.rows)) i 0 (all_corners g given lens (g.cols * g.rows) c) l)

-- ---- all of it
module _ (width height : Float) (given : List Float) (lens : List ℕ) (lent : Tables) (s : Site) (w : Going width height given lens (rooms_of lent) s) where
  grid_head : (g : Grid) → g ≡ grid_of width height given lens → SoundHead (bounds_in width height given lens) (cell_in width height given lens)
      → (point_in_domain g.origin ≡ true) × (le one_f g.cell ≡ true) × (lt g.cell (inf false) ≡ true) × (eq g.inv_cell (one_f ⊘ g.cell) ≡ true)
  unfolding grid_of grid_by point_in_domain
  grid_head g e h = rw e (rw (h.left_in, h.low_in), h.cell_least, h.cell_finite, h.inverse_same)

  sound : Sound (site_of width height (grid_of width height given lens) given lens) (tables_of (grid_of width height given lens) given lens lent)
  unfolding site_of tables_of item_count
  sound =
      let g = grid_of width height given lens in
      let n = length lens in
      let sp = span_in g given lens in
      let c = w.counts in
      let r = roomy width height given lens (rooms_of lent) s w in
      let l = limited width height given lens (rooms_of lent) s w in
      let i = inside width height given w.inside in
      let h = grid_head g refl (head width height given lens c.few_polygons i) in
      let fit : g.cols * g.rows < length lent.starts = r.starts_fit in
      let room : length (items_of sp n g.cols (g.cols * g.rows)) ≤ length lent.items = r.items_fit in
      let p : length (points_of given lens) ≡ length given = all_points_length given lens c in
      let even : 2 * first_in lens (length lens) ≡ length given = c.numbers_add_up in
      let whole : first_in lens (length lens) ≡ points_in given = omega arith in
      record {
        points_long = omega (arith, length_padded zero_f (length lent.points) (points_of given lens) (omega (arith, r.points_fit)), r.points_fit);
        boxes_long = omega (arith, length_padded zero_f (length lent.boxes) (boxes_table given lens) (omega (arith, r.boxes_fit, boxes_length given lens)), r.boxes_fit);
        polygons_long = omega (arith, length_padded 0 (length lent.polygons) (polygons_table lens) (omega (arith, r.polygons_fit, polygons_length lens)), r.polygons_fit);
        owners_long = omega (arith, length_padded 0 (length lent.owners) (owners_table lens) (omega (arith, r.owners_fit, owners_length lens)), r.owners_fit);
        starts_long = (tabled.built_sound sp n g.cols g.rows (length lent.starts) (length lent.items) fit room l.has_cols l.has_rows).starts_len;
        items_long = omega (arith, length_padded 0 (length lent.items) (items_of sp n g.cols (g.cols * g.rows)) room);
        few_polygons = c.few_polygons;
        few_points = omega (arith, c.few_points);
        has_cols = l.has_cols;
        has_rows = l.has_rows;
        few_cells = l.small;
        width_in = load_size width i.width_in;
        height_in = load_size height i.height_in;
        origin_in = h.0;
        point_in = point_placed given lens (length lent.points) c (all_placed given lens i.numbers_in_domain);
        cell_least = h.1;
        cell_finite = h.2;
        inverse = h.3;
        inside = λ k q. rw (first_is lens (length lent.polygons) k q, len_is lens (length lent.polygons) k q) (omega (arith, held given lens k c q));
        box_is_right = λ k q. box_placed given lens (length lent.points) (length lent.polygons) (length lent.boxes) k c i.numbers_in_domain q;
        first_start = tabled.start_at sp n g.cols g.rows (length lent.starts) (length lent.items) fit room 0 (omega arith);
        rise = (tabled.built_sound sp n g.cols g.rows (length lent.starts) (length lent.items) fit room l.has_cols l.has_rows).rise;
        last_start = tabled.last_is sp n g.cols g.rows (length lent.starts) (length lent.items) fit room;
        item_below = item_below g given lens (length lent.starts) (length lent.items) c fit room;
        item_corners = item_corners g given lens (length lent.starts) (length lent.items) c fit room (length lent.polygons);
        owner_below = λ j q. let (k, a, b, d, e) = owned lens (length lent.owners) j (le_trans q (le_of_eq (sym whole))) in rw e a;
        owner_first = λ j q. let (k, a, b, d, e) = owned lens (length lent.owners) j (le_trans q (le_of_eq (sym whole))) in rw (e, first_is lens (length lent.polygons) k a) b;
        owner_end = λ j q. let (k, a, b, d, e) = owned lens (length lent.owners) j (le_trans q (le_of_eq (sym whole))) in rw (e, first_is lens (length lent.polygons) k a, len_is lens (length lent.polygons) k a) d;
        one_owner = λ k j q t. rw (first_is lens (length lent.polygons) k q) (owner_is lens (length lent.owners) k j q (le_trans t (le_of_eq (len_is lens (length lent.polygons) k q))));
      }

-- an outcome that answers with a site is that of a plan to make it
pub plan_of_lem : (p : Result Site Refusal) (given : List Float) (lens : List ℕ) (lent left : Tables) (s : Site) → Does (outcome_by p given lens lent) (Ok s) left → (p ≡ Ok s) × (left ≡ tables_of s.grid given lens lent)
unfolding outcome_by
plan_of_lem (Err refusal) given lens lent left s d = absurd (no d.says)
  where
    no : ◌≡◌ {A = Result Site Refusal} (Ok s) (Err refusal) → ⊥
    no e = let z : ◌≡◌ {A = ℕ} 0 1 = cc in omega arith
plan_of_lem (Ok x) given lens lent left s d = let e : s ≡ x = same d.says in (ap Ok (sym e), d.leaves ∙ ap (λ (y : Site). tables_of y.grid given lens lent) (sym e))
  where
    same : ◌≡◌ {A = Result Site Refusal} (Ok s) (Ok x) → s ≡ x
    same e = cc

-- THE THEOREM
pub built_sound : (width height : Float) (given : List Float) (lens : List ℕ) (lent left : Tables) (s : Site) → Does (outcome width height given lens lent) (Ok s) left → sound_of s left ≡ true
unfolding outcome
built_sound width height given lens lent left s d =
    let p = plan_of_lem (plan_of width height given lens (rooms_of lent)) given lens lent left s d in
    let w = going width height given lens (rooms_of lent) s p.0 in
    let g : s.grid ≡ grid_of width height given lens = grid_of_lem width height given lens (rooms_of lent) s w in
    let t = tables_of (grid_of width height given lens) given lens lent in
    ap (sound_of s) (p.1 ∙ ap (λ (x : Grid). tables_of x given lens lent) g)
    ∙ ap (λ (x : Site). sound_of x t) w.is
    ∙ tested (site_of width height (grid_of width height given lens) given lens) t (sound width height given lens lent s w)
