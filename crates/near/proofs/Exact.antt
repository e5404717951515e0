-- WHAT THE LIST IS, of any site, edited ones too: no id is there twice, and an id is there exactly where its range and the box's share a cell (`exact`). Nothing is asked of the
-- polygons' ranges. Document 02, Q-6. Assumes nothing.
use Rattle.std.proofs.Common.{None, Option, Some}
use mathlib.Core.Path.{◌≡◌, refl, sym, ap, ◌∙◌}
use mathlib.Core.Bool.{true}
use mathlib.Core.List.{List}
use Prim.Native.Nat.{ℕ, suc, ◌+◌, ◌-◌, ◌%◌, ◌≤◌, ◌<◌, min, max}
use native.Mathlib.Omega.{arith}
use lib.Dec.{ltb}
use borrow.Author.Tests.{le-leb}
use Rattle.lists.specs.Lists.{counting, filter, joined}
use Rattle.lists.specs.Members.{In, NoDup}
use Rattle.lists.proofs.Members.{from_map}
use Rattle.lists.proofs.Counting.{counting_in, in_counting, filter_in, in_filter}
use Rattle.lists.proofs.Joined.{joined_in, in_joined}
use Rattle.grid.specs.declared.CellRange.{CellRange}
use Rattle.grid.specs.Entries.{Inside}
use Rattle.sorts.specs.Sort.{sort}
use Rattle.tables.specs.Tables.{InRange, Share}
use Rattle.near.specs.Shared.{meet, has_cell, is_first, first_here, near_of}
use Rattle.near.specs.Keys.{id_span, key_of, shares, keys_from}
use Rattle.near.proofs.FirstCells.{shared_in, is_first_lem}
use Rattle.near.proofs.Climbing.{sort_in, climb_sort, climb_once, nodup_map}
use Rattle.near.proofs.SortedKeys.{place, key_id, keys_once, sorted_near}

pub record Exact (span : ℕ → (Option CellRange)) (n : ℕ) (q : (Option CellRange)) (l : List ℕ) : Type 0 where
  pub once : NoDup l
  pub only : (id : ℕ) → In id l → (id < n) × Share (span id) q
  pub every : (id : ℕ) → id < n → Share (span id) q → In id l

module _ (span : ℕ → (Option CellRange)) (cols n : ℕ) (q : CellRange) (below : q.c1 < cols) (few : n ≤ 4096) where
  -- two keys of one id are one key
  one_id : (y z : ℕ) → In y (sort ltb (keys_from span cols q 0 n)) → In z (sort ltb (keys_from span cols q 0 n)) → y % 4096 ≡ z % 4096 → y ≡ z
  one_id y z i k e =
      let (a, u, v) = from_map (key_of span cols q) y (filter (shares span cols q) (counting 0 n)) (sort_in y (keys_from span cols q 0 n) i) in
      let (b, w, x) = from_map (key_of span cols q) z (filter (shares span cols q) (counting 0 n)) (sort_in z (keys_from span cols q 0 n) k) in
      same_key a b u w v x
    where
      same_key : (a b : ℕ) → In a (filter (shares span cols q) (counting 0 n)) → In b (filter (shares span cols q) (counting 0 n)) → key_of span cols q a ≡ y → key_of span cols q b ≡ z → y ≡ z
      same_key a b u w v x =
          let p : a ≡ b = sym (key_id span cols n q below few a u) ∙ ap (λ (m : ℕ). m % 4096) v ∙ e ∙ ap (λ (m : ℕ). m % 4096) (sym x) ∙ key_id span cols n q below few b w in
          sym v ∙ ap (key_of span cols q) p ∙ x

  near_once : NoDup (near_of span n (Some q))
  near_once =
      rw (← sorted_near span cols n q below few)
      (nodup_map (λ key. key % id_span) (sort ltb (keys_from span cols q 0 n)) (climb_once (sort ltb (keys_from span cols q 0 n)) (climb_sort (keys_from span cols q 0 n) (keys_once span cols n q below few))) one_id)

  near_only : (id : ℕ) → In id (near_of span n (Some q)) → (id < n) × Share (span id) (Some q)
  unfolding near_of
  near_only id i =
      let (j, a, u) = joined_in id (λ j. joined (λ i. first_here span n q (q.r0 + j) (q.c0 + i)) (suc q.c1 - q.c0)) (suc q.r1 - q.r0) i in
      let (k, b, v) = joined_in id (λ i. first_here span n q (q.r0 + j) (q.c0 + i)) (suc q.c1 - q.c0) u in
      let m = filter_in (λ x. is_first (meet (span x) q) (q.r0 + j) (q.c0 + k)) id (counting 0 n) v in
      let f = is_first_lem (span id) q (q.r0 + j) (q.c0 + k) m.1 in
      (omega (arith, counting_in id 0 n m.0), (q.r0 + j, q.c0 + k, f.of_both.0, f.of_both.1))

  has_cell_lem : (s : (Option CellRange)) (row col : ℕ) → InRange s row col → Inside q row col → has_cell (meet s q) ≡ true
  has_cell_lem None row col i o = absurd i
  has_cell_lem (Some p) row col i o =
      let m = shared_in p q row col i o in
      let w : max p.c0 q.c0 ≤ min p.c1 q.c1 = omega (arith, m.below_col, m.above_col) in
      let h : max p.r0 q.r0 ≤ min p.r1 q.r1 = omega (arith, m.below_row, m.above_row) in
      rw (le-leb _ _ w, le-leb _ _ h)

  near_every : (id : ℕ) → id < n → Share (span id) (Some q) → In id (near_of span n (Some q))
  unfolding near_of
  near_every id h (row, col, i, o) =
      let p = place span cols n q below few (span id) (has_cell_lem (span id) row col i o) in
      in_joined id (λ j. joined (λ i. first_here span n q (q.r0 + j) (q.c0 + i)) (suc q.c1 - q.c0)) (suc q.r1 - q.r0) p.row p.row_below
      (in_joined id (λ i. first_here span n q (q.r0 + p.row) (q.c0 + i)) (suc q.c1 - q.c0) p.col p.col_below
      (in_filter (λ x. is_first (meet (span x) q) (q.r0 + p.row) (q.c0 + p.col)) id (counting 0 n) (in_counting id 0 n (omega arith) (omega arith)) p.first))

pub exact : (span : ℕ → (Option CellRange)) (cols n : ℕ) (q : (Option CellRange)) → ((r : CellRange) → q ≡ Some r → r.c1 < cols) → n ≤ 4096 → Exact span n q (near_of span n q)
unfolding near_of
exact span cols n None below few = record { once = tt; only = λ id i. absurd i; every = λ id h (row, col, i, o). absurd o }
exact span cols n (Some q) below few =
    let b = below q refl in
    record { once = near_once span cols n q b few; only = near_only span cols n q b few; every = near_every span cols n q b few }
