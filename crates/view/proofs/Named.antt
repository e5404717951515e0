-- The ids that the inner box query lists are polygons of the site (`ids_named`), of three points or more (`ids_cornered`): what all items have, they have (`ids_all`).
-- Assumes nothing.
use Rattle.std.proofs.Common.{None, Option, Some, Err}
use mathlib.Core.Path.{◌≡◌, refl}
use mathlib.Core.Bool.{Bool, true, false, cond}
use mathlib.Core.List.{List}
use Prim.Native.Nat.{ℕ, ◌+◌, ◌*◌, ◌≤◌, ◌<◌}
use native.Mathlib.Nat.{mul-le-mul_left, mul-le-mul_right}
use native.Mathlib.Omega.{arith}
use lib.Dec.{ltb}
use lib.ListN.{length, get_or, replicate}
use Rattle.lists.specs.Members.{In}
use Rattle.lists.specs.Parts.{padded}
use Rattle.lists.proofs.Members.{in_at, all_in}
use Rattle.lists.proofs.Zeros.{get_d_padded}
use Rattle.geom.specs.declared.Aabb.{Aabb}
use Rattle.grid.specs.declared.Grid.{Grid}
use Rattle.grid.specs.declared.CellRange.{CellRange}
use Rattle.grid.specs.Range.{range_of, InGrid}
use Rattle.grid.specs.Stamps.{epoch_after, marks_begun, firsts}
use Rattle.grid.specs.Entries.{cell_of, entries_in}
use Rattle.grid.specs.Entries as entries
use Rattle.grid.specs.Query as query
use Rattle.grid.proofs.Ranges.{range_in}
use Rattle.grid.proofs.BoxQuery.{listed_in, entries_in_lem, cell_all}
use Rattle.grid.proofs.Rows.{row_in}
use Rattle.site.specs.declared.Site.{Site}
use Rattle.site.specs.Tables.{Tables, len_of, item_at}
use Rattle.site.specs.Soundness.{Sound}
use Rattle.site.proofs.SoundLaws.{grid_sound}
use Rattle.refusal.specs.declared.Refusal.TheVariants.{NoListRoom}
use Rattle.grid.specs.Query.{counted}
use Rattle.grid.proofs.Numbers.{counted_same}

-- ---- an entry is an item
entry_all : (g : Grid) (r : CellRange) (starts items : List ℕ) (P : ℕ → Type 0) (x : ℕ) → InGrid g r → entries.SoundGrid g.cols g.rows starts items
    → ((i : ℕ) → i < get_or starts (g.cols * g.rows) 0 → P (get_or items i 0)) → In x (entries_in g r starts items) → P x
entry_all g r starts items P x o s has h =
    let (row, col, i, u) = entries_in_lem g r starts items x h in
    let c : row * g.cols + col < g.cols * g.rows = omega (arith, row_in g.cols g.rows col 1 row (omega (arith, i.above_row, o.r1_in)) (omega (arith, i.above_col, o.c1_in))) in
    all_in P (cell_of starts items (row * g.cols + col)) x (cell_all P (row * g.cols + col) s has c) u

-- ---- in a sound site
module _ (site : Site) (t : Tables) (S : Sound site t) where
  in_grid : (b : Aabb) (r : CellRange) → range_of site.grid b ≡ Some r → InGrid site.grid r
  in_grid b r e =
      let c : site.grid.cols * 1 ≤ site.grid.cols * site.grid.rows = mul-le-mul_left site.grid.cols S.has_rows in
      let d : 1 * site.grid.rows ≤ site.grid.cols * site.grid.rows = mul-le-mul_right site.grid.rows S.has_cols in
      range_in site.grid b r (omega (arith, S.has_cols)) (omega (arith, S.has_rows)) (omega (arith, c, S.few_cells)) (omega (arith, d, S.few_cells)) e

  -- what all items have
  module _ (P : ℕ → Type 0) (has : (i : ℕ) → i < site.items → P (item_at t.items i)) where
    found_all : (r : CellRange) (e : ℕ) (m : List ℕ) (j : ℕ) → InGrid site.grid r → j < length (firsts e m (entries_in site.grid r t.starts t.items))
        → P (get_or (firsts e m (entries_in site.grid r t.starts t.items)) j 0)
    found_all r e m j o h =
        entry_all site.grid r t.starts t.items P _ o (grid_sound S) (λ i p. has i (omega (arith, S.last_start)))
        (listed_in e m _ (entries_in site.grid r t.starts t.items) (in_at (firsts e m (entries_in site.grid r t.starts t.items)) j 0 h))

    laid_by : (room n read j : ℕ) (found : List ℕ) (k : ℕ) (b : Bool) → ((i : ℕ) → i < length found → P (get_or found i 0))
        → cond b (Err NoListRoom) (counted (length found) k) ≡ counted n read → j < n → P (get_or (cond b (replicate room 0) (padded 0 room found)) j 0)
    laid_by room n read j found k true h q l = cc
    laid_by room n read j found k false h q l =
        let z : length found ≡ n = (counted_same q).0 in
        let i : j < length found = omega arith in
        rw (get_d_padded 0 room found j 0 i) (h j i)

    all_by : (b : Aabb) (r : (Option CellRange)) → range_of site.grid b ≡ r → (m : List ℕ) (e room n read j : ℕ)
        → (query.outcome_by site.grid r t.starts t.items m e room).answer ≡ counted n read → j < n → P (get_or (query.outcome_by site.grid r t.starts t.items m e room).ids j 0)
    unfolding query.outcome_by
    all_by b None is m e room n read j q l = let z : 0 ≡ n = (counted_same q).0 in absurd (omega arith)
    all_by b (Some r) is m e room n read j q l =
        laid_by room n read j (firsts (epoch_after e) (marks_begun e m) (entries_in site.grid r t.starts t.items)) (length (entries_in site.grid r t.starts t.items))
        (ltb room (length (firsts (epoch_after e) (marks_begun e m) (entries_in site.grid r t.starts t.items)))) (λ i h. found_all r (epoch_after e) (marks_begun e m) i (in_grid b r is) h) q l

    ids_all : (b : Aabb) (m : List ℕ) (e room n read j : ℕ) → (query.outcome site.grid b t.starts t.items m e room).answer ≡ counted n read → j < n
        → P (get_or (query.outcome site.grid b t.starts t.items m e room).ids j 0)
    unfolding query.outcome
    ids_all b m e room n read j q l = all_by b (range_of site.grid b) refl m e room n read j q l

  pub ids_named : (b : Aabb) (m : List ℕ) (e room n read j : ℕ) → (query.outcome site.grid b t.starts t.items m e room).answer ≡ counted n read → j < n
      → get_or (query.outcome site.grid b t.starts t.items m e room).ids j 0 < site.polygons
  ids_named = ids_all (λ (x : ℕ). x < site.polygons) S.item_below

  pub ids_cornered : (b : Aabb) (m : List ℕ) (e room n read j : ℕ) → (query.outcome site.grid b t.starts t.items m e room).answer ≡ counted n read → j < n
      → 3 ≤ len_of t.polygons (get_or (query.outcome site.grid b t.starts t.items m e room).ids j 0)
  ids_cornered = ids_all (λ (x : ℕ). 3 ≤ len_of t.polygons x) S.item_corners
