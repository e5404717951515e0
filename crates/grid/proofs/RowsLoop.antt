-- The loop of `stamp_rows`: rows `row` to r1 are left. Assumes nothing.
use Prim.Native.Nat.{ℕ, suc, ◌+◌, ◌-◌, ◌*◌, ◌≤◌, ◌<◌}
use mathlib.Core.Path.{◌≡◌, refl, sym}
use mathlib.Core.List.{List, [], ◌++◌}
use native.Mathlib.Omega.{arith}
use native.Mathlib.Nat.{suc-mul}
use native.Mathlib.Numerals.{add-one}
use lib.ListN.{length, get_or, length-append}
use lib.Seq.{sets}
use Rattle.grid.specs.Stamps.{stamped, firsts}
use Rattle.grid.specs.Entries.{rows_from, SoundGrid, RowIn, row_part, tally_of}
use Rattle.grid.specs.declared.Tally.{Tally}
use Rattle.grid.proofs.Rows.{rows_cons, rows_nil, row_in, start_le, row_of, part_of, part_len}
use Rattle.grid.proofs.Stamping.{length_firsts, Left, begun, moved, part}

pub tally_is : (e : ℕ) (m xs : List ℕ) (t : Tally) → t.found ≡ length (firsts e m xs) → t.read ≡ length xs → t ≡ tally_of e m xs
unfolding tally_of
tally_is e m xs t p q = rw (← p, ← q)

module _ (starts items : List ℕ) (cols c n r1 : ℕ) where
  -- the rows from `row` on
  abbrev pub on : ℕ → List ℕ
  on row = rows_from starts items cols c n row (suc r1 - row)

  -- a row's entries
  abbrev pub lent : ℕ → List ℕ
  lent row = row_part starts items (row * cols + c) n

  pub record Walked (row₀ : ℕ) (marks₀ : List ℕ) (e : ℕ) (ids₀ marks ids : List ℕ) (row found read : ℕ) : Type 0 where
    pub left : Left (on row₀) (on row) marks₀ e ids₀ 0 marks ids found
    pub read_left : read + length (on row) ≡ length (on row₀)
    pub fewer : found ≤ read
    pub behind : row ≤ r1 → read ≤ get_or starts (row * cols + c) 0

  pub start : (row : ℕ) (marks : List ℕ) (e : ℕ) (ids : List ℕ) → Walked row marks e ids marks ids row 0 0
  start row marks e ids = record { left = begun _ _ _ _ _; read_left = omega arith; fewer = omega arith; behind = λ h. omega arith }

  pub moved_w : {row₀ row found read found' read' e : ℕ} {marks₀ ids₀ marks ids marks' ids' : List ℕ}
      → Walked row₀ marks₀ e ids₀ marks ids row found read
      → marks' ≡ marks → ids' ≡ ids → found' ≡ found → read' ≡ read → Walked row₀ marks₀ e ids₀ marks' ids' row found' read'
  moved_w w o p q r = rw (o, p, q, r) w

  module _ {rows : ℕ} (s : SoundGrid cols rows starts items) (hr : r1 < rows) (hc : c + n ≤ cols) where
    -- a row that is left: its cells lie in the grid
    in_grid : (row : ℕ) → row ≤ r1 → row * cols + c + n ≤ cols * rows
    in_grid row h = row_in cols rows c n row (omega arith) hc

    pub row_here : (row : ℕ) → row ≤ r1 → RowIn starts items (row * cols + c) n
    row_here row h = row_of s (row * cols + c) n (in_grid row h)

    -- the next row begins no earlier than this one ends
    next : (row : ℕ) → row + 1 ≤ r1 → get_or starts (row * cols + c + n) 0 ≤ get_or starts ((row + 1) * cols + c) 0
    next row h =
        let k : row * cols + c + n + (cols - n) ≡ (row + 1) * cols + c = rw add-one (rw suc-mul (omega arith)) in
        rw k at (start_le s (row * cols + c + n) (cols - n) (rw k (omega (arith, in_grid (row + 1) h))))

    opened : (row : ℕ) → row ≤ r1 → on row ≡ lent row ++ on (row + 1)
    opened row h =
        let k : suc r1 - row ≡ suc (suc r1 - (row + 1)) = omega arith in
        rw (k, rows_cons, part_of s (row * cols + c) n (in_grid row h))

    -- what was read before a row and the items together are few
    pub room : {row₀ row found read e : ℕ} {marks₀ ids₀ marks ids : List ℕ} → Walked row₀ marks₀ e ids₀ marks ids row found read → row ≤ r1
        → read ≤ length items
    room {row = row} w h = omega (arith, w.behind h, (row_here row h).ordered, (row_here row h).within)

    pub step : {row₀ row found read e : ℕ} {marks₀ ids₀ marks ids : List ℕ} → Walked row₀ marks₀ e ids₀ marks ids row found read → row ≤ r1
        → Walked row₀ marks₀ e ids₀ (stamped e marks (lent row)) (sets ids found (firsts e marks (lent row))) (row + 1)
        (found + length (firsts e marks (lent row))) (read + length (lent row))
    step {row = row} {e = e} {marks = marks} w h =
        let o = row_here row h in
        record {
          left = part (lent row) (moved w.left (sym (opened row h)) refl refl refl);
          read_left = omega (arith, rw (opened row h, length-append) at w.read_left);
          fewer = omega (arith, w.fewer, length_firsts e marks (lent row));
          behind = λ k. omega (arith, next row k, w.behind h, o.ordered, part_len starts items (row * cols + c) n o);
        }

    pub done : {row₀ row found read e : ℕ} {marks₀ ids₀ marks ids : List ℕ} → Walked row₀ marks₀ e ids₀ marks ids row found read → r1 < row
        → Left (on row₀) [] marks₀ e ids₀ 0 marks ids found × read ≡ length (on row₀)
    done {row = row} w h =
        let k : suc r1 - row ≡ 0 = omega arith in
        let o : on row ≡ [] = rw (k, rows_nil) in
        (moved w.left (sym o) refl refl refl, omega (arith, rw o at w.read_left))
