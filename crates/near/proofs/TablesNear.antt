-- THE GRID'S LIST IS THE LIST BY FIRST SHARED CELL AND THEN ID, for tables that `build` makes and fresh stamps, and its count of entries is that of the cells of
-- the box's range. Assumes nothing.
use Rattle.std.proofs.Common.{None, Option, Some}
use mathlib.Core.Path.{◌≡◌, refl, sym, ◌∙◌}
use mathlib.Core.Logic.{inl, inr, ⊎_elim}
use mathlib.Core.Bool.{true}
use mathlib.Core.List.{List}
use Prim.Native.Nat.{ℕ, suc, ◌+◌, ◌-◌, ◌*◌, ◌≤◌, ◌<◌}
use native.Mathlib.Nat.{add_assoc, add-zero, add-suc}
use native.Mathlib.Omega.{arith}
use lib.ListN.{length, get_or}
use borrow.Author.Tests.{le-ltb}
use Rattle.lists.specs.Lists.{joined, sum_to}
use Rattle.lists.proofs.Sums.{sum_to_ext}
use Rattle.lists.proofs.Joined.{joined_ext, length_joined}
use Rattle.lists.proofs.Zeros.{padded_nil}
use Rattle.geom.specs.declared.Aabb.{Aabb}
use Rattle.grid.specs.declared.CellRange.{CellRange}
use Rattle.grid.specs.declared.Grid.{Grid}
use Rattle.grid.specs.Range.{range_of, InGrid}
use Rattle.grid.specs.Stamps.{epoch_after, marks_begun, firsts, Fresh}
use Rattle.grid.specs.Entries.{cell_of, cells_from, rows_from, entries_in, Inside}
use Rattle.grid.specs.Query as query
use Rattle.grid.proofs.Rows.{row_in}
use Rattle.grid.proofs.BoxQuery.{begun_length}
use Rattle.grid.proofs.FreshStamps.{begun_bare}
use Rattle.tables.specs.Tables.{Limits, covers, cell_items, items_of, InRange, held_in}
use Rattle.tables.proofs.Cells.{range_of_lem}
use Rattle.tables.proofs.BuiltTables.{covers_inside, inside_covers, built_cell}
use Rattle.tables.proofs.BuiltTables as built
use Rattle.near.specs.Shared.{meet, is_first, first_here, near_of}
use Rattle.near.specs.Outcome.{outcome_in}
use Rattle.near.proofs.Meetings.{Meets, meets_cell, meets_then, meets_all}
use Rattle.near.proofs.FirstCells.{Began, new_first, first_new, next_to, next_from, row_to, row_from, none_past}

-- the entries of the cells of a range, row by row, by the polygons' ranges
abbrev held_by : (ℕ → (Option CellRange)) → ℕ → ℕ → CellRange → List ℕ
held_by span n cols q = joined (λ j. joined (λ i. cell_items span n cols ((q.r0 + j) * cols + q.c0 + i)) (suc q.c1 - q.c0)) (suc q.r1 - q.r0)

-- ---- those met first
module _ (span : ℕ → (Option CellRange)) (n cols : ℕ) (q : CellRange) (h : q.c1 < cols) where
  -- what was met before the row and column
  abbrev Before : ℕ → ℕ → ℕ → Type 0
  Before row col x = Began (meet (span x) q) row col

  -- one cell
  module _ (e row i : ℕ) (o : Inside q row (q.c0 + i)) where
    below : q.c0 + i < cols
    below = omega (arith, o.above_col)

    has_to : (x : ℕ) → covers cols (span x) (row * cols + q.c0 + i) ≡ true → InRange (span x) row (q.c0 + i)
    has_to x k = covers_inside cols (span x) row (q.c0 + i) below (rw add_assoc at k)

    has_from : (x : ℕ) → InRange (span x) row (q.c0 + i) → covers cols (span x) (row * cols + q.c0 + i) ≡ true
    has_from x k = rw add_assoc (inside_covers cols (span x) row (q.c0 + i) below k)

    cell : Meets e n (cell_items span n cols (row * cols + q.c0 + i)) (first_here span n q row (q.c0 + i)) (Before row (q.c0 + i)) (Before row (q.c0 + suc i))
    cell =
        meets_cell e n (λ x. covers cols (span x) (row * cols + q.c0 + i)) (λ x. is_first (meet (span x) q) row (q.c0 + i)) (Before row (q.c0 + i)) (Before row (q.c0 + suc i))
        (λ x l k p. new_first q row (q.c0 + i) o (span x) (has_to x k) p)
        (λ x l k. let f = first_new q row (q.c0 + i) o (span x) k in (has_from x f.0, f.1))
        (λ x l k. ⊎_elim (λ p. inl p) (λ p. inr (has_from x p)) (next_to q row (q.c0 + i) o (span x) (rw (add-suc q.c0 i) at k)))
        (λ x l k. rw (add-suc q.c0 i) (next_from q row (q.c0 + i) o (span x) (⊎_elim (λ p. inl p) (λ p. inr (has_to x p)) k)))

  -- the cells of a row
  row_met : (e row : ℕ) → q.r0 ≤ row → row ≤ q.r1
      → Meets e n (joined (λ i. cell_items span n cols (row * cols + q.c0 + i)) (suc q.c1 - q.c0)) (joined (λ i. first_here span n q row (q.c0 + i)) (suc q.c1 - q.c0))
      (Before row q.c0) (Before (suc row) q.c0)
  row_met e row lo hi =
      meets_then e n (joined (λ i. cell_items span n cols (row * cols + q.c0 + i)) (suc q.c1 - q.c0)) (joined (λ i. first_here span n q row (q.c0 + i)) (suc q.c1 - q.c0))
      (Before row q.c0) (Before row (q.c0 + (suc q.c1 - q.c0))) (Before (suc row) q.c0)
      (λ x l k. row_to q row (span x) k) (λ x l k. row_from q row (span x) k)
      (rw (add-zero q.c0) at (meets_all e n (λ i. cell_items span n cols (row * cols + q.c0 + i)) (λ i. first_here span n q row (q.c0 + i)) (λ i. Before row (q.c0 + i)) (suc q.c1 - q.c0)
      (λ i l. cell e row i (record { below_row = lo; above_row = hi; below_col = omega arith; above_col = omega arith }))))

  -- THE FIRST MEETINGS over the range
  pub first_meetings : (e : ℕ) (m : List ℕ) → n ≤ length m → ((x : ℕ) → get_or m x 0 ≡ e → ⊥) → firsts e m (held_by span n cols q) ≡ near_of span n (Some q)
  unfolding near_of
  first_meetings e m long bare =
      (meets_all e n (λ j. joined (λ i. cell_items span n cols ((q.r0 + j) * cols + q.c0 + i)) (suc q.c1 - q.c0)) (λ j. joined (λ i. first_here span n q (q.r0 + j) (q.c0 + i)) (suc q.c1 - q.c0))
      (λ j. Before (q.r0 + j) q.c0) (suc q.r1 - q.r0) (λ j l. rw (add-suc q.r0 j) (row_met e (q.r0 + j) (omega arith) (omega arith))) m
      (record { long = long; to = λ x l k. absurd (bare x k); from = λ x l k. absurd (none_past q (span x) (rw (add-zero q.r0) at k)) })).0

  -- how many entries there are
  length_held : length (held_by span n cols q) ≡ held_in span n cols (Some q)
  length_held =
      length_joined (λ j. joined (λ i. cell_items span n cols ((q.r0 + j) * cols + q.c0 + i)) (suc q.c1 - q.c0)) (suc q.r1 - q.r0)
      ∙ sum_to_ext (λ j. length (joined (λ i. cell_items span n cols ((q.r0 + j) * cols + q.c0 + i)) (suc q.c1 - q.c0)))
      (λ j. sum_to (λ i. length (cell_items span n cols ((q.r0 + j) * cols + q.c0 + i))) (suc q.c1 - q.c0)) (suc q.r1 - q.r0)
      (λ j l. length_joined (λ i. cell_items span n cols ((q.r0 + j) * cols + q.c0 + i)) (suc q.c1 - q.c0))

-- ---- the query over built tables
module _ (g : Grid) (span : ℕ → (Option CellRange)) (n a c : ℕ) (l : Limits g) (fit : g.cols * g.rows < a) (room : length (items_of span n g.cols (g.cols * g.rows)) ≤ c) where
  abbrev st : List ℕ
  st = built.starts span n g.cols g.rows a c fit room

  abbrev it : List ℕ
  it = built.items span n g.cols g.rows a c fit room

  entries_are : (q : CellRange) → InGrid g q → entries_in g q st it ≡ held_by span n g.cols q
  unfolding entries_in rows_from cells_from
  entries_are q o =
      joined_ext (λ j. joined (λ i. cell_of st it ((q.r0 + j) * g.cols + q.c0 + i)) (suc q.c1 - q.c0))
      (λ j. joined (λ i. cell_items span n g.cols ((q.r0 + j) * g.cols + q.c0 + i)) (suc q.c1 - q.c0)) (suc q.r1 - q.r0)
      (λ j h. joined_ext (λ i. cell_of st it ((q.r0 + j) * g.cols + q.c0 + i)) (λ i. cell_items span n g.cols ((q.r0 + j) * g.cols + q.c0 + i)) (suc q.c1 - q.c0)
      (λ i k. built_cell span n g.cols g.rows a c fit room ((q.r0 + j) * g.cols + q.c0 + i)
      (omega (arith, row_in g.cols g.rows q.c0 (suc i) (q.r0 + j) (omega (arith, o.r1_in)) (omega (arith, o.c1_in))))))

  -- what the query answers and leaves in the list, whatever the room
  pub record Same (b : Aabb) (k : ℕ) (o : query.Outcome) : Type 0 where
    pub answers : o.answer ≡ (outcome_in span n g.cols (range_of g b) k).answer
    pub ids : o.ids ≡ (outcome_in span n g.cols (range_of g b) k).ids

  same_by : (b : Aabb) (q : (Option CellRange)) (m : List ℕ) (e k : ℕ) → range_of g b ≡ q → n ≤ length m → Fresh e m → Same b k (query.outcome g b st it m e k)
  unfolding query.outcome query.outcome_by near_of
  same_by b None m e k is many f = record { answers = rw (is, le-ltb k 0 (omega arith)); ids = rw (is, le-ltb k 0 (omega arith)) (sym (padded_nil {A = ℕ} 0 k)) }
  same_by b (Some q) m e k is many f =
      let o = range_of_lem g b q l is in
      let x : entries_in g q st it ≡ held_by span n g.cols q = entries_are q o in
      let y : firsts (epoch_after e) (marks_begun e m) (held_by span n g.cols q) ≡ near_of span n (Some q) =
      first_meetings span n g.cols q o.c1_in (epoch_after e) (marks_begun e m) (omega (arith, begun_length e m _ refl)) (λ i h. omega (arith, begun_bare e m f i)) in
      let z : length (held_by span n g.cols q) ≡ held_in span n g.cols (Some q) = length_held span n g.cols q o.c1_in in
      record { answers = rw (is, x, y, z); ids = rw (is, x, y) }

  pub same : (b : Aabb) (m : List ℕ) (e k : ℕ) → n ≤ length m → Fresh e m → Same b k (query.outcome g b st it m e k)
  same b m e k many f = same_by b (range_of g b) m e k refl many f
