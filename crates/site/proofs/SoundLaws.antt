-- WHAT SOUND TABLES GIVE: the record `Sound` follows from the test, and from it what the crate `grid` asks of its tables. Assumes nothing.
use Prim.Native.Nat.{ℕ, ◌+◌, ◌-◌, ◌*◌, ◌≤◌, ◌<◌, min}
use mathlib.Core.Path.{◌≡◌, refl, subst, ◌∙◌}
use mathlib.Core.Logic.{⊎_elim}
use mathlib.Core.Bool.{Bool, true, false, ◌&&◌, cond, and-true}
use native.Mathlib.Numerals.{add-one}
use native.Mathlib.Nat.{le_trans, le_of_eq}
use native.Mathlib.Omega.{arith}
use mathlib.Core.List.{List}
use lib.ListN.{length, length-take, length-drop}
use lib.Dec.{ltb, leb, eqb}
use lib.Ieee.{Float, inf, lt, le, eq}
use borrow.Author.Tests.{ltb-true, leb-true, eqb-true, eqb-false, lt-ltb, le-leb, eq-eqb}
use Rattle.num.specs.Ops.{◌⊘◌, one_f}
use Rattle.grid.specs.Entries as entries
use Rattle.grid.specs.declared.Grid.{Grid}
use Rattle.site.specs.declared.Site.{Site}
use Rattle.lists.specs.Members.{Rises, all_to}
use Rattle.bounds.specs.Domain.{in_size}
use Rattle.grid.specs.Boxes.{box_stride, box_at}
use Rattle.site.specs.Domain.{point_in_domain}
use Rattle.site.specs.Tables.{Tables, point_stride, polygon_stride, first_of, len_of, point_at, owner_at, start_at, item_at, verts_of, box_of, edge_end_of, cells_of}
use Rattle.site.specs.Soundness.{tables_long, counts_within, head_in_domain, points_in_domain, cell_right, same_box, box_right, boxes_right, cells_within, never_fall, starts_right, item_right, items_right, parts_inside, owned, all_owned, owns, all_own, sound_of, Sound}
use Rattle.lists.proofs.Cases.{lt_or_le}
use Rattle.lists.proofs.AllTo.{both, all_to_at, all_to_lem}

-- the twelve lines, apart
pub record Lines (s : Site) (t : Tables) : Type 0 where
  pub long : tables_long s t ≡ true
  pub counts : counts_within s ≡ true
  pub head : head_in_domain s ≡ true
  pub points : points_in_domain s.points t.points ≡ true
  pub cell : cell_right s.grid ≡ true
  pub boxes : boxes_right s.polygons t.points t.boxes t.polygons ≡ true
  pub cells : cells_within s ≡ true
  pub starts : starts_right (cells_of s) s.items t.starts ≡ true
  pub items : items_right s.items s.polygons t.polygons t.items ≡ true
  pub parts : parts_inside s.polygons s.points t.polygons ≡ true
  pub owned : all_owned s.polygons s.points t.polygons t.owners ≡ true
  pub own : all_own s.polygons t.polygons t.owners ≡ true

pub lines : (s : Site) (t : Tables) → sound_of s t ≡ true → Lines s t
unfolding sound_of
lines s t e =
    let a = both _ _ e in
    let b = both _ _ a.0 in
    let c = both _ _ b.0 in
    let d = both _ _ c.0 in
    let f = both _ _ d.0 in
    let g = both _ _ f.0 in
    let h = both _ _ g.0 in
    let i = both _ _ h.0 in
    let j = both _ _ i.0 in
    let k = both _ _ j.0 in
    let l = both _ _ k.0 in
    record {
      long = l.0;
      counts = l.1;
      head = k.1;
      points = j.1;
      cell = i.1;
      boxes = h.1;
      cells = g.1;
      starts = f.1;
      items = d.1;
      parts = c.1;
      owned = b.1;
      own = a.1;
    }

-- the items decide where the other lines pass
by_items : (s : Site) (t : Tables) → tables_long s t ≡ true → counts_within s ≡ true → head_in_domain s ≡ true → points_in_domain s.points t.points ≡ true
    → cell_right s.grid ≡ true → boxes_right s.polygons t.points t.boxes t.polygons ≡ true → cells_within s ≡ true
    → starts_right (cells_of s) s.items t.starts ≡ true → parts_inside s.polygons s.points t.polygons ≡ true
    → all_owned s.polygons s.points t.polygons t.owners ≡ true → all_own s.polygons t.polygons t.owners ≡ true
    → sound_of s t ≡ items_right s.items s.polygons t.polygons t.items
unfolding sound_of
by_items s t a b c d e f g h i j k = simp (a, b, c, d, e, f, g, h, i, j, k, and-true)

-- ---- line by line
pub record Long (s : Site) (t : Tables) : Type 0 where
  pub points : point_stride * s.points ≤ length t.points
  pub boxes : box_stride * s.polygons ≤ length t.boxes
  pub polygons : polygon_stride * s.polygons ≤ length t.polygons
  pub owners : s.points ≤ length t.owners
  pub starts : cells_of s < length t.starts
  pub items : s.items ≤ length t.items

pub long : (s : Site) (t : Tables) → tables_long s t ≡ true → Long s t
unfolding tables_long
long s t e =
    let a = both _ _ e in
    let b = both _ _ a.0 in
    let c = both _ _ b.0 in
    let d = both _ _ c.0 in
    let f = both _ _ d.0 in
    record {
      points = leb-true _ _ f.0;
      boxes = leb-true _ _ f.1;
      polygons = leb-true _ _ d.1;
      owners = leb-true _ _ c.1;
      starts = ltb-true _ _ b.1;
      items = leb-true _ _ a.1;
    }

pub few : (s : Site) → counts_within s ≡ true → (s.polygons ≤ 4096) × (s.points ≤ 65536)
unfolding counts_within
few s e = let a = both _ _ e in (leb-true _ _ a.0, leb-true _ _ a.1)

head_in : (s : Site) → head_in_domain s ≡ true → (in_size s.width ≡ true) × (in_size s.height ≡ true) × (point_in_domain s.grid.origin ≡ true)
unfolding head_in_domain
head_in s e = let a = both _ _ e in let b = both _ _ a.0 in (b.0, b.1, a.1)

pub points_are_in : (n : ℕ) (l : List Float) → points_in_domain n l ≡ true → (i : ℕ) → i < n → point_in_domain (point_at l i) ≡ true
unfolding points_in_domain
points_are_in n l e i h = all_to_at (λ j. point_in_domain (point_at l j)) n e i h

pub cell_is : (g : Grid) → cell_right g ≡ true → (le one_f g.cell ≡ true) × (lt g.cell (inf false) ≡ true) × (eq g.inv_cell (one_f ⊘ g.cell) ≡ true)
unfolding cell_right
cell_is g e = let a = both _ _ e in let b = both _ _ a.0 in (b.0, b.1, a.1)

boxes_are : (n : ℕ) (p b : List Float) (g : List ℕ) → boxes_right n p b g ≡ true → (k : ℕ) → k < n → same_box (box_at b k) (box_of p g k) ≡ true
unfolding boxes_right box_right
boxes_are n p b g e k h = all_to_at (λ j. same_box (box_at b j) (box_of p g j)) n e k h

pub cells_in : (s : Site) → cells_within s ≡ true → (1 ≤ s.grid.cols) × (1 ≤ s.grid.rows) × (cells_of s ≤ 1048576)
unfolding cells_within
cells_in s e = let a = both _ _ e in let b = both _ _ a.0 in (leb-true _ _ b.0, leb-true _ _ b.1, leb-true _ _ a.1)

rises : (l : List ℕ) (n : ℕ) → never_fall n l ≡ true → Rises l 0 n
unfolding never_fall
rises l n e i p q = rw (← add-one i) (leb-true _ _ (all_to_at (λ c. leb (start_at l c) (start_at l (c + 1))) n e i (omega arith)))

starts_are : (cells count : ℕ) (l : List ℕ) → starts_right cells count l ≡ true → (start_at l 0 ≡ 0) × Rises l 0 cells × (start_at l cells ≡ count)
unfolding starts_right
starts_are cells count l e =
    let a = both _ _ e in
    let b = both _ _ a.0 in
    (eqb-true _ _ b.0, rises l cells b.1, eqb-true _ _ a.1)

items_are : (count n : ℕ) (g l : List ℕ) → items_right count n g l ≡ true → (i : ℕ) → i < count → (item_at l i < n) × (3 ≤ len_of g (item_at l i))
unfolding items_right item_right
items_are count n g l e i h =
    let a = both _ _ (all_to_at (λ j. ltb (item_at l j) n && leb 3 (len_of g (item_at l j))) count e i h) in
    (ltb-true _ _ a.0, leb-true _ _ a.1)

pub parts_in : (n m : ℕ) (g : List ℕ) → parts_inside n m g ≡ true → (k : ℕ) → k < n → first_of g k + len_of g k ≤ m
unfolding parts_inside
parts_in n m g e k h = leb-true _ _ (all_to_at (λ j. leb (first_of g j + len_of g j) m) n e k h)

owned_by : (n m : ℕ) (g l : List ℕ) → all_owned n m g l ≡ true → (i : ℕ) → i < m
    → (owner_at l i < n) × (first_of g (owner_at l i) ≤ i) × (i < first_of g (owner_at l i) + len_of g (owner_at l i))
unfolding all_owned owned
owned_by n m g l e i h =
    let a = both _ _ (all_to_at (λ j. ltb (owner_at l j) n && leb (first_of g (owner_at l j)) j && ltb j (first_of g (owner_at l j) + len_of g (owner_at l j))) m e i h) in
    let b = both _ _ a.0 in
    (ltb-true _ _ b.0, leb-true _ _ b.1, ltb-true _ _ a.1)

own_all : (n : ℕ) (g l : List ℕ) → all_own n g l ≡ true → (k j : ℕ) → k < n → j < len_of g k → owner_at l (first_of g k + j) ≡ k
unfolding all_own owns
own_all n g l e k j h i =
    eqb-true _ _ (all_to_at (λ m. eqb (owner_at l (first_of g k + m)) k) (len_of g k) (all_to_at (λ q. all_to (λ m. eqb (owner_at l (first_of g q + m)) q) (len_of g q)) n e k h) j i)

-- ---- all of it
pub sound : (s : Site) (t : Tables) → sound_of s t ≡ true → Sound s t
sound s t e =
    let a = lines s t e in
    let l = long s t a.long in
    let f = few s a.counts in
    let h = head_in s a.head in
    let g = cell_is s.grid a.cell in
    let c = cells_in s a.cells in
    let r = starts_are (cells_of s) s.items t.starts a.starts in
    let i = items_are s.items s.polygons t.polygons t.items a.items in
    let o = owned_by s.polygons s.points t.polygons t.owners a.owned in
    record {
      points_long = l.points;
      boxes_long = l.boxes;
      polygons_long = l.polygons;
      owners_long = l.owners;
      starts_long = l.starts;
      items_long = l.items;
      few_polygons = f.0;
      few_points = f.1;
      has_cols = c.0;
      has_rows = c.1;
      few_cells = c.2;
      width_in = h.0;
      height_in = h.1;
      origin_in = h.2;
      point_in = points_are_in s.points t.points a.points;
      cell_least = g.0;
      cell_finite = g.1;
      inverse = g.2;
      inside = parts_in s.polygons s.points t.polygons a.parts;
      box_is_right = boxes_are s.polygons t.points t.boxes t.polygons a.boxes;
      first_start = r.0;
      rise = r.1;
      last_start = r.2;
      item_below = λ n q. (i n q).0;
      item_corners = λ n q. (i n q).1;
      owner_below = λ n q. (o n q).0;
      owner_first = λ n q. (o n q).1;
      owner_end = λ n q. (o n q).2;
      one_owner = own_all s.polygons t.polygons t.owners a.own;
    }

-- ---- and the other way round: whoever shows the facts, as building does, has shown the test
and_both : (a b : Bool) → a ≡ true → b ≡ true → (a && b) ≡ true
and_both a b e f = rw (e, f)

pub counts_pass : (s : Site) → s.polygons ≤ 4096 → s.points ≤ 65536 → counts_within s ≡ true
unfolding counts_within
counts_pass s a b = simp (le-leb _ _ a, le-leb _ _ b)

pub points_pass : (n : ℕ) (l : List Float) → ((i : ℕ) → i < n → point_in_domain (point_at l i) ≡ true) → points_in_domain n l ≡ true
unfolding points_in_domain
points_pass n l h = all_to_lem _ n h

pub cell_passes : (g : Grid) → le one_f g.cell ≡ true → lt g.cell (inf false) ≡ true → eq g.inv_cell (one_f ⊘ g.cell) ≡ true → cell_right g ≡ true
unfolding cell_right
cell_passes g a b c = simp (a, b, c)

pub cells_pass : (s : Site) → 1 ≤ s.grid.cols → 1 ≤ s.grid.rows → cells_of s ≤ 1048576 → cells_within s ≡ true
unfolding cells_within
cells_pass s a b c = simp (le-leb _ _ a, le-leb _ _ b, le-leb _ _ c)

pub parts_pass : (n m : ℕ) (g : List ℕ) → ((k : ℕ) → k < n → first_of g k + len_of g k ≤ m) → parts_inside n m g ≡ true
unfolding parts_inside
parts_pass n m g h = all_to_lem _ n (λ k q. le-leb _ _ (h k q))

module _ (s : Site) (t : Tables) (h : Sound s t) where
  tables_pass : tables_long s t ≡ true
  unfolding tables_long
  tables_pass =
      simp (
        le-leb _ _ h.points_long,
        le-leb _ _ h.boxes_long,
        le-leb _ _ h.polygons_long,
        le-leb _ _ h.owners_long,
        lt-ltb _ _ h.starts_long,
        le-leb _ _ h.items_long,
      )

  head_passes : head_in_domain s ≡ true
  unfolding head_in_domain
  head_passes = simp (h.width_in, h.height_in, h.origin_in)

  boxes_pass : boxes_right s.polygons t.points t.boxes t.polygons ≡ true
  unfolding boxes_right box_right
  boxes_pass = all_to_lem _ s.polygons h.box_is_right

  never_falls : never_fall (cells_of s) t.starts ≡ true
  unfolding never_fall
  never_falls =
      all_to_lem _ (cells_of s)
      (λ c q. le-leb (start_at t.starts c) (start_at t.starts (c + 1)) (rw add-one (h.rise c (omega arith) (omega arith))))

  starts_pass : starts_right (cells_of s) s.items t.starts ≡ true
  unfolding starts_right
  starts_pass = simp (eq-eqb (start_at t.starts 0) 0 h.first_start, never_falls, eq-eqb (start_at t.starts (cells_of s)) s.items h.last_start)

  items_pass : items_right s.items s.polygons t.polygons t.items ≡ true
  unfolding items_right item_right
  items_pass = all_to_lem _ s.items (λ i q. and_both _ _ (lt-ltb _ _ (h.item_below i q)) (le-leb _ _ (h.item_corners i q)))

  owned_pass : all_owned s.polygons s.points t.polygons t.owners ≡ true
  unfolding all_owned owned
  owned_pass =
      all_to_lem _ s.points
      (λ i q. and_both _ _ (and_both _ _ (lt-ltb _ _ (h.owner_below i q)) (le-leb _ _ (h.owner_first i q))) (lt-ltb _ _ (h.owner_end i q)))

  own_pass : all_own s.polygons t.polygons t.owners ≡ true
  unfolding all_own owns
  own_pass = all_to_lem _ s.polygons (λ k q. all_to_lem _ (len_of t.polygons k) (λ j r. eq-eqb _ _ (h.one_owner k j q r)))

  pub tested : sound_of s t ≡ true
  tested =
      by_items s t tables_pass
      (counts_pass s h.few_polygons h.few_points)
      head_passes
      (points_pass s.points t.points h.point_in)
      (cell_passes s.grid h.cell_least h.cell_finite h.inverse)
      boxes_pass
      (cells_pass s h.has_cols h.has_rows h.few_cells)
      starts_pass
      (parts_pass s.polygons s.points t.polygons h.inside)
      owned_pass own_pass
      ∙ items_pass

-- ---- what a reader of the tables cites
below : (n end all : ℕ) → n ≤ end → end ≤ all → (n ≡ end → ⊥) → min n 4294967295 < all
below n end all p q ne = ⊎_elim (λ l. omega arith) (λ l. absurd (ne (omega arith))) (lt_or_le n end)

module _ {s : Site} {t : Tables} (h : Sound s t) where
  -- a polygon's points lie inside the slice
  pub verts_within : (k : ℕ) → k < s.polygons → point_stride * (first_of t.polygons k + len_of t.polygons k) ≤ length t.points
  verts_within k q = omega (arith, h.inside k q, h.points_long)

  -- so the part has as many corners as the polygon
  pub verts_length : (k : ℕ) → k < s.polygons → length (verts_of t.points t.polygons k) ≡ point_stride * len_of t.polygons k
  verts_length k q =
      let w : point_stride * (first_of t.polygons k + len_of t.polygons k) ≤ length t.points = verts_within k q in
      simp (length-take, length-drop) (omega arith)

  -- the polygon that holds a point owns it
  pub owner_is : (k i : ℕ) → k < s.polygons → first_of t.polygons k ≤ i → i < first_of t.polygons k + len_of t.polygons k → owner_at t.owners i ≡ k
  owner_is k i q a b =
      let e : first_of t.polygons k + (i - first_of t.polygons k) ≡ i = omega arith in
      subst (λ (n : ℕ). owner_at t.owners n ≡ k) e (h.one_owner k (i - first_of t.polygons k) q (omega arith))

  -- an edge ends at a point
  pub end_below : (e : ℕ) → e < s.points → edge_end_of t.polygons t.owners e < s.points
  unfolding edge_end_of
  end_below e q = go (eqb (e + 1) (first_of t.polygons k + len_of t.polygons k)) (eqb-false (e + 1) (first_of t.polygons k + len_of t.polygons k))
    where
      k : ℕ
      k = owner_at t.owners e

      go : (b : Bool) → (b ≡ false → e + 1 ≡ first_of t.polygons k + len_of t.polygons k → ⊥) → cond b (first_of t.polygons k) (min (e + 1) 4294967295) < s.points
      go true n = omega (arith, h.owner_first e q)
      go false n = below (e + 1) (first_of t.polygons k + len_of t.polygons k) s.points (omega (arith, h.owner_end e q)) (h.inside k (h.owner_below e q)) (n refl)

  -- WHAT THE CRATE `grid` ASKS of the starts and the items
  pub grid_sound : entries.SoundGrid s.grid.cols s.grid.rows t.starts t.items
  grid_sound = record {
    has_cols = h.has_cols;
    has_rows = h.has_rows;
    starts_len = h.starts_long;
    rise = h.rise;
    last = le_trans (le_of_eq h.last_start) h.items_long;
  }

  -- and every item names one of n marks, where there are no fewer marks than polygons
  pub grid_named : (n : ℕ) → s.polygons ≤ n → entries.Named (cells_of s) t.starts t.items n
  grid_named n q i p = let b : i < s.items = omega (arith, h.last_start) in omega (arith, h.item_below i b)
