-- The first cell that a polygon's range and a box's share: it is the first by rows and columns, and when the box's cells are gone through in that order, a polygon
-- was met before a cell exactly if its first shared cell was passed. Assumes nothing.
use Rattle.std.proofs.Common.{None, Option, Some}
use mathlib.Core.Path.{◌≡◌, sym}
use mathlib.Core.Logic.{◌⊎◌, inl, inr, ⊎_elim}
use mathlib.Core.Bool.{true, ◌&&◌, and-eq-true_iff, false≢true}
use Prim.Native.Nat.{ℕ, suc, ◌+◌, ◌-◌, ◌≤◌, ◌<◌, min, max}
use native.Mathlib.Omega.{arith}
use lib.Dec.{leb, eqb}
use borrow.Author.Tests.{leb-true, le-leb, eqb-true, eq-eqb}
use Rattle.lists.proofs.Cases.{lt_or_le}
use Rattle.grid.specs.declared.CellRange.{CellRange}
use Rattle.grid.specs.Entries.{Inside}
use Rattle.tables.specs.Tables.{InRange}
use Rattle.near.specs.Shared.{shared, meet, is_first}

-- what the test says
pub record TestedFirst (r : CellRange) (row col : ℕ) : Type 0 where
  pub wide : r.c0 ≤ r.c1
  pub high : r.r0 ≤ r.r1
  pub row_is : row ≡ r.r0
  pub col_is : col ≡ r.c0

pub first_to : (r : CellRange) (row col : ℕ) → is_first (Some r) row col ≡ true → TestedFirst r row col
first_to r row col h =
    let a = (and-eq-true_iff (leb r.c0 r.c1 && leb r.r0 r.r1) (eqb row r.r0 && eqb col r.c0)).0 h in
    let b = (and-eq-true_iff (leb r.c0 r.c1) (leb r.r0 r.r1)).0 a.0 in
    let c = (and-eq-true_iff (eqb row r.r0) (eqb col r.c0)).0 a.1 in
    record { wide = leb-true _ _ b.0; high = leb-true _ _ b.1; row_is = eqb-true _ _ c.0; col_is = eqb-true _ _ c.1 }

pub first_from : (r : CellRange) (row col : ℕ) → TestedFirst r row col → is_first (Some r) row col ≡ true
first_from r row col f = rw (le-leb _ _ f.wide, le-leb _ _ f.high, eq-eqb _ _ f.row_is, eq-eqb _ _ f.col_is)

-- a cell passed before the row and column: the range has cells, and its first one lies before
pub record Past (r : CellRange) (row col : ℕ) : Type 0 where
  pub wide : r.c0 ≤ r.c1
  pub high : r.r0 ≤ r.r1
  pub before : (r.r0 < row) ⊎ ((r.r0 ≡ row) × (r.c0 < col))

abbrev pub Began : (Option CellRange) → ℕ → ℕ → Type 0
Began None row col = ⊥
Began (Some r) row col = Past r row col

-- a cell of both ranges is a cell of what they share, and the other way round
module _ (p q : CellRange) (row col : ℕ) where
  pub shared_in : Inside p row col → Inside q row col → Inside (shared p q) row col
  shared_in a b =
      let a1 = a.below_row in
      let a2 = a.above_row in
      let a3 = a.below_col in
      let a4 = a.above_col in
      let b1 = b.below_row in
      let b2 = b.above_row in
      let b3 = b.below_col in
      let b4 = b.above_col in
      record { below_row = omega arith; above_row = omega arith; below_col = omega arith; above_col = omega arith }

  in_shared : Inside (shared p q) row col → Inside p row col × Inside q row col
  in_shared a = (
    record { below_row = omega (arith, a.below_row); above_row = omega (arith, a.above_row); below_col = omega (arith, a.below_col); above_col = omega (arith, a.above_col) },
    record { below_row = omega (arith, a.below_row); above_row = omega (arith, a.above_row); below_col = omega (arith, a.below_col); above_col = omega (arith, a.above_col) },
  )

corner : (r : CellRange) (row col : ℕ) → TestedFirst r row col → Inside r row col
corner r row col f =
    let a = f.row_is in
    let b = f.col_is in
    let c = f.wide in
    let d = f.high in
    record { below_row = omega arith; above_row = omega arith; below_col = omega arith; above_col = omega arith }

-- ---- of a cell of the box's range q
module _ (q : CellRange) (row col : ℕ) (i : Inside q row col) where
  -- the polygon's range has the cell, and was not met before: it is the first that they share
  pub new_first : (s : (Option CellRange)) → InRange s row col → (Began (meet s q) row col → ⊥) → is_first (meet s q) row col ≡ true
  new_first None h n = absurd h
  new_first (Some p) h n =
      let o = shared_in p q row col h i in
      let w : max p.c0 q.c0 ≤ min p.c1 q.c1 = omega (arith, o.below_col, o.above_col) in
      let v : max p.r0 q.r0 ≤ min p.r1 q.r1 = omega (arith, o.below_row, o.above_row) in
      let a : row ≤ max p.r0 q.r0 = ⊎_elim (λ l. absurd (n (record { wide = w; high = v; before = inl l }))) (λ l. l) (lt_or_le (max p.r0 q.r0) row) in
      let e : max p.r0 q.r0 ≡ row = omega (arith, o.below_row) in
      let b : col ≤ max p.c0 q.c0 = ⊎_elim (λ l. absurd (n (record { wide = w; high = v; before = inr (e, l) }))) (λ l. l) (lt_or_le (max p.c0 q.c0) col) in
      first_from (shared p q) row col (record { wide = w; high = v; row_is = sym e; col_is = omega (arith, o.below_col) })

  pub first_new : (s : (Option CellRange)) → is_first (meet s q) row col ≡ true → InRange s row col × (Began (meet s q) row col → ⊥)
  first_new None h = absurd (false≢true h)
  first_new (Some p) h =
      let f = first_to (shared p q) row col h in
      let a : row ≡ max p.r0 q.r0 = f.row_is in
      let b : col ≡ max p.c0 q.c0 = f.col_is in
      ((in_shared p q row col (corner (shared p q) row col f)).0, λ g. ⊎_elim (λ l. omega arith) (λ l. let x : max p.c0 q.c0 < col = l.1 in omega arith) g.before)

  -- the next cell of the row
  pub next_to : (s : (Option CellRange)) → Began (meet s q) row (suc col) → Began (meet s q) row col ⊎ InRange s row col
  next_to None g = absurd g
  next_to (Some p) g =
      let w : max p.c0 q.c0 ≤ min p.c1 q.c1 = g.wide in
      let v : max p.r0 q.r0 ≤ min p.r1 q.r1 = g.high in
      ⊎_elim
      (λ l. inl (record { wide = w; high = v; before = inl l }))
      (λ l.
      ⊎_elim
      (λ m. inl (record { wide = w; high = v; before = inr (l.0, m) }))
      (λ m.
      let e : row ≡ max p.r0 q.r0 = sym l.0 in
      let f : max p.c0 q.c0 < suc col = l.1 in
      let d : col ≡ max p.c0 q.c0 = omega arith in
      inr (in_shared p q row col (corner (shared p q) row col (record { wide = w; high = v; row_is = e; col_is = d }))).0)
      (lt_or_le (max p.c0 q.c0) col))
      g.before

  pub next_from : (s : (Option CellRange)) → Began (meet s q) row col ⊎ InRange s row col → Began (meet s q) row (suc col)
  next_from None g = absurd (⊎_elim (λ h. h) (λ h. h) g)
  next_from (Some p) g =
      ⊎_elim
      (λ h. record { wide = h.wide; high = h.high; before = ⊎_elim (λ l. inl l) (λ l. let x : max p.c0 q.c0 < col = l.1 in inr (l.0, omega arith)) h.before })
      (λ h.
      let o = shared_in p q row col h i in
      let w : max p.c0 q.c0 ≤ min p.c1 q.c1 = omega (arith, o.below_col, o.above_col) in
      let v : max p.r0 q.r0 ≤ min p.r1 q.r1 = omega (arith, o.below_row, o.above_row) in
      let x : max p.c0 q.c0 < suc col = omega (arith, o.below_col) in
      record { wide = w; high = v; before = ⊎_elim (λ l. inl l) (λ l. inr (omega (arith, o.below_row), x)) (lt_or_le (max p.r0 q.r0) row) })
      g

-- ---- the next row: what is past at the end of one is past at the start of the next
module _ (q : CellRange) (row : ℕ) where
  pub row_to : (s : (Option CellRange)) → Began (meet s q) row (q.c0 + (suc q.c1 - q.c0)) → Began (meet s q) (suc row) q.c0
  row_to None g = g
  row_to (Some p) g = record { wide = g.wide; high = g.high; before = inl (⊎_elim (λ l. omega arith) (λ l. let e : max p.r0 q.r0 ≡ row = l.0 in omega arith) g.before) }

  pub row_from : (s : (Option CellRange)) → Began (meet s q) (suc row) q.c0 → Began (meet s q) row (q.c0 + (suc q.c1 - q.c0))
  row_from None g = g
  row_from (Some p) g =
      let w : max p.c0 q.c0 ≤ min p.c1 q.c1 = g.wide in
      let b : max p.r0 q.r0 < suc row = ⊎_elim (λ l. l) (λ l. let x : max p.c0 q.c0 < q.c0 = l.1 in omega arith) g.before in
      let x : max p.c0 q.c0 < q.c0 + (suc q.c1 - q.c0) = omega arith in
      record { wide = w; high = g.high; before = ⊎_elim (λ l. inl l) (λ l. inr (omega arith, x)) (lt_or_le (max p.r0 q.r0) row) }

-- before the first cell nothing is past
pub none_past : (q : CellRange) (s : (Option CellRange)) → Began (meet s q) q.r0 q.c0 → ⊥
none_past q None g = g
none_past q (Some p) g =
    ⊎_elim (λ l. let x : max p.r0 q.r0 < q.r0 = l in omega arith) (λ l. let x : max p.c0 q.c0 < q.c0 = l.1 in omega arith) g.before

-- ---- THE FIRST SHARED CELL: of both ranges, and no shared cell lies before it, by rows and then columns
pub record IsFirst (s : (Option CellRange)) (q : CellRange) (row col : ℕ) : Type 0 where
  pub of_both : InRange s row col × Inside q row col
  pub none_before : (r c : ℕ) → InRange s r c → Inside q r c → (row < r) ⊎ ((row ≡ r) × (col ≤ c))

pub is_first_lem : (s : (Option CellRange)) (q : CellRange) (row col : ℕ) → is_first (meet s q) row col ≡ true → IsFirst s q row col
is_first_lem None q row col h = absurd (false≢true h)
is_first_lem (Some p) q row col h =
    let f = first_to (shared p q) row col h in
    let a : row ≡ max p.r0 q.r0 = f.row_is in
    let b : col ≡ max p.c0 q.c0 = f.col_is in
    record {
      of_both = in_shared p q row col (corner (shared p q) row col f);
      none_before = λ r c x y.
          let o = shared_in p q r c x y in
          let u : max p.r0 q.r0 ≤ r = o.below_row in
          let v : max p.c0 q.c0 ≤ c = o.below_col in
          ⊎_elim (λ l. inl l) (λ l. inr (omega arith, omega arith)) (lt_or_le row r);
    }

-- and the other way round: the cell of which that holds passes the test
pub first_is : (s : (Option CellRange)) (q : CellRange) (row col : ℕ) → IsFirst s q row col → is_first (meet s q) row col ≡ true
first_is None q row col f = absurd f.of_both.0
first_is (Some p) q row col f =
    let o = shared_in p q row col f.of_both.0 f.of_both.1 in
    let w : max p.c0 q.c0 ≤ min p.c1 q.c1 = omega (arith, o.below_col, o.above_col) in
    let v : max p.r0 q.r0 ≤ min p.r1 q.r1 = omega (arith, o.below_row, o.above_row) in
    let k = in_shared p q (max p.r0 q.r0) (max p.c0 q.c0) (record { below_row = omega arith; above_row = v; below_col = omega arith; above_col = w }) in
    let a : max p.r0 q.r0 ≤ row = o.below_row in
    let b : max p.c0 q.c0 ≤ col = o.below_col in
    ⊎_elim
    (λ l. absurd (omega arith))
    (λ l. let d : row ≡ max p.r0 q.r0 = l.0 in let e : col ≤ max p.c0 q.c0 = l.1 in first_from (shared p q) row col (record { wide = w; high = v; row_is = d; col_is = omega arith }))
    (f.none_before (max p.r0 q.r0) (max p.c0 q.c0) k.0 k.1)
