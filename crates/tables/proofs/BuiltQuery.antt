-- DEMAND 3 OF THE BOX QUERY (document 01), for tables that `build` makes and fresh stamps: the ids listed are distinct; an id is listed exactly where
-- its cell range and the box's share a cell; the entries read are those that the cells of the box's range hold; the stamps stay fresh. Assumes nothing.
use Rattle.std.proofs.Common.{None, Option, Some, Err, Ok}
use mathlib.Core.Path.{◌≡◌, refl, sym, ap, ◌∙◌}
use mathlib.Core.List.{List, []}
use Prim.Native.Nat.{ℕ, suc, ◌+◌, ◌-◌, ◌*◌, ◌≤◌, ◌<◌}
use native.Mathlib.Nat.{not-suc-le-zero}
use native.Mathlib.Omega.{arith}
use lib.Ieee.{Float}
use lib.ListN.{length, replicate}
use Rattle.lists.specs.Lists.{sum_to}
use Rattle.lists.specs.Parts.{padded}
use Rattle.lists.specs.Members.{In, NoDup}
use Rattle.lists.proofs.Sums.{sum_to_ext}
use Rattle.lists.proofs.Zeros.{padded_nil}
use Rattle.geom.specs.declared.Aabb.{Aabb}
use Rattle.grid.specs.declared.CellRange.{CellRange}
use Rattle.grid.specs.declared.Grid.{Grid}
use Rattle.grid.specs.Range.{range_of, InGrid}
use Rattle.grid.specs.Stamps.{Fresh}
use Rattle.grid.specs.Entries.{cell_of, entry_count, Inside}
use Rattle.grid.specs.Query as query
use Rattle.grid.proofs.Rows.{row_in}
use Rattle.grid.proofs.BoxQuery.{fair_query, no_range}
use Rattle.tables.specs.Tables.{span_of, Limits, Buildable, cell_items, items_of, Share, held_in, outcome, Does}
use Rattle.tables.proofs.Cells.{range_of_lem}
use Rattle.tables.proofs.Whole.{fitted}
use Rattle.tables.proofs.BuiltTables.{covers_inside, inside_covers, item_in, in_item, starts, items, built_sound, built_named, built_cell}
use Rattle.refusal.specs.declared.Refusal.TheVariants.{NoListRoom}
use Rattle.grid.specs.Query.{counted}

-- the outcome o of a query with the box b, in room for k ids, over polygons whose ranges are `span`
pub record Demand (g : Grid) (span : ℕ → (Option CellRange)) (n : ℕ) (b : Aabb) (k : ℕ) (o : query.Outcome) : Type 0 where
  pub found : List ℕ
  -- no id twice
  pub once : NoDup found
  -- an id is listed exactly where its range and the box's share a cell
  pub only : (id : ℕ) → In id found → (id < n) × Share (span id) (range_of g b)
  pub every : (id : ℕ) → id < n → Share (span id) (range_of g b) → In id found
  -- as many entries are read as the cells of the box's range hold; after the list come zeros
  pub fits : length found ≤ k → (o.answer ≡ counted (length found) (held_in span n g.cols (range_of g b))) × (o.ids ≡ padded 0 k found)
  -- a list that is too short is refused and left all zero
  pub over : k < length found → (o.answer ≡ Err NoListRoom) × (o.ids ≡ replicate k 0)
  -- and the stamps serve the next query
  pub again : Fresh o.epoch o.marks

module _ (g : Grid) (span : ℕ → (Option CellRange)) (n a c : ℕ) (l : Limits g) (fit : g.cols * g.rows < a) (room : length (items_of span n g.cols (g.cols * g.rows)) ≤ c) where
  -- the tables
  abbrev st : List ℕ
  st = starts span n g.cols g.rows a c fit room

  abbrev it : List ℕ
  it = items span n g.cols g.rows a c fit room

  cell_in : (r : CellRange) (row col : ℕ) → InGrid g r → Inside r row col → row * g.cols + col < g.cols * g.rows
  cell_in r row col o i = omega (arith, row_in g.cols g.rows col 1 row (omega (arith, o.r1_in, i.above_row)) (omega (arith, o.c1_in, i.above_col)))

  -- the entries held, by the tables and by the polygons
  held_is : (r : CellRange) → InGrid g r → entry_count g r st it ≡ held_in span n g.cols (Some r)
  unfolding entry_count
  held_is r o =
      sum_to_ext (λ j. sum_to (λ i. length (cell_of st it ((r.r0 + j) * g.cols + r.c0 + i))) (suc r.c1 - r.c0))
      (λ j. sum_to (λ i. length (cell_items span n g.cols ((r.r0 + j) * g.cols + r.c0 + i))) (suc r.c1 - r.c0)) (suc r.r1 - r.r0)
      (λ j h. sum_to_ext (λ i. length (cell_of st it ((r.r0 + j) * g.cols + r.c0 + i))) (λ i. length (cell_items span n g.cols ((r.r0 + j) * g.cols + r.c0 + i))) (suc r.c1 - r.c0)
      (λ i k. ap length (built_cell span n g.cols g.rows a c fit room ((r.r0 + j) * g.cols + r.c0 + i)
      (omega (arith, row_in g.cols g.rows r.c0 (suc i) (r.r0 + j) (omega (arith, o.r1_in)) (omega (arith, o.c1_in)))))))

  with_range : (b : Aabb) (r : CellRange) (m : List ℕ) (e k : ℕ) → range_of g b ≡ Some r → n ≤ length m → Fresh e m → Demand g span n b k (query.outcome g b st it m e k)
  with_range b r m e k is many f =
      let o = range_of_lem g b r l is in
      let q = fair_query g b r st it m e k is o (built_sound span n g.cols g.rows a c fit room l.has_cols l.has_rows) (built_named span n g.cols g.rows a c fit room (length m) many) f in
      record {
        found = q.found;
        once = q.once;
        only = λ id h.
            let (row, col, i, w) = q.only id h in
            let v = item_in span n g.cols (row * g.cols + col) id (rw (built_cell span n g.cols g.rows a c fit room (row * g.cols + col) (cell_in r row col o i)) at w) in
            (v.0, (row, col, covers_inside g.cols (span id) row col (omega (arith, o.c1_in, i.above_col)) v.1, rw is i));
        every = λ id h (row, col, s, t).
            let i : Inside r row col = rw is at t in
            q.every id (
              row,
              col,
              i,
              rw (built_cell span n g.cols g.rows a c fit room (row * g.cols + col) (cell_in r row col o i))
                  (in_item span n g.cols (row * g.cols + col) id h (inside_covers g.cols (span id) row col (omega (arith, o.c1_in, i.above_col)) s)),
            );
        fits = λ h. ((q.fits h).0 ∙ ap (counted (length q.found)) (held_is r o ∙ ap (held_in span n g.cols) (sym is)), (q.fits h).1);
        over = q.over;
        again = q.again;
      }

  without : (b : Aabb) (m : List ℕ) (e k : ℕ) → range_of g b ≡ None → Fresh e m → Demand g span n b k (query.outcome g b st it m e k)
  without b m e k is f =
      let q = no_range g b st it m e k is in
      rw q (
      record {
        found = [];
        once = tt;
        only = λ id h. absurd h;
        every = λ id h (row, col, s, t). absurd (rw is at t);
        fits = λ h. (rw is, sym (padded_nil 0 k));
        over = λ h. absurd (not-suc-le-zero h);
        again = f;
      })

  by_range : (b : Aabb) (q : (Option CellRange)) (m : List ℕ) (e k : ℕ) → range_of g b ≡ q → n ≤ length m → Fresh e m → Demand g span n b k (query.outcome g b st it m e k)
  by_range b None m e k is many f = without b m e k is f
  by_range b (Some r) m e k is many f = with_range b r m e k is many f

-- THE THEOREM: starts and items are what `build` left, answering with a count of items; at least as many marks as polygons are lent, and they are fresh
pub demand : (g : Grid) (boxes : List Float) (n : ℕ) (starts₀ items₀ starts₁ items₁ : List ℕ) (total : ℕ) → Buildable g boxes n
    → Does (outcome g boxes n starts₀ items₀) (Ok total) starts₁ items₁
    → (b : Aabb) (m : List ℕ) (e k : ℕ) → n ≤ length m → Fresh e m → Demand g (span_of g boxes) n b k (query.outcome g b starts₁ items₁ m e k)
demand g boxes n starts₀ items₀ starts₁ items₁ total u d b m e k many f =
    let w = fitted (span_of g boxes) n g.cols (g.cols * g.rows) starts₀ items₀ total starts₁ items₁ d in
    rw (w.starts_is, w.items_is) (by_range g (span_of g boxes) n (length starts₀) (length items₀) u.limits w.fit w.room b (range_of g b) m e k refl many f)
