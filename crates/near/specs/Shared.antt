-- The polygons near a box, without tables: the cells that a polygon's range and the box's share, the first of them, and the list by first shared cell and
-- then id. Document 02, Q-6: "orders what it finds by first shared cell and then id". `span` gives each polygon's range. Definitions only.
use Rattle.std.specs.Prelude.{Bool, false, ◌&&◌, List, [], ℕ, suc, ◌+◌, ◌-◌, min, max, leb, eqb, None, Option, Some}
use Rattle.lists.specs.Lists.{counting, filter, joined}
use Rattle.grid.specs.declared.CellRange.{CellRange}

-- the cells that two ranges share. A range whose first column or row is past its last has none
abbrev pub shared : CellRange → CellRange → CellRange
shared p q = record { c0 = max p.c0 q.c0; r0 = max p.r0 q.r0; c1 = min p.c1 q.c1; r1 = min p.r1 q.r1 }

abbrev pub meet : (Option CellRange) → CellRange → Option CellRange
meet None q = None
meet (Some p) q = Some (shared p q)

-- the range has a cell
abbrev pub has_cell : (Option CellRange) → Bool
has_cell None = false
has_cell (Some r) = leb r.c0 r.c1 && leb r.r0 r.r1

-- the cell of the row and column is the first of the range, row by row. proofs/FirstCells.antt: it is of both ranges, and none before it is
abbrev pub is_first : (Option CellRange) → ℕ → ℕ → Bool
is_first None row col = false
is_first (Some r) row col = has_cell (Some r) && (eqb row r.r0 && eqb col r.c0)

module _ (span : ℕ → (Option CellRange)) (n : ℕ) where
  -- of n polygons, those whose first cell shared with the range q is this one, rising
  abbrev pub first_here : CellRange → ℕ → ℕ → List ℕ
  first_here q row col = filter (λ id. is_first (meet (span id) q) row col) (counting 0 n)

  -- THE LIST: over the cells of the box's range, row by row
  unfoldable pub near_of : (Option CellRange) → List ℕ
  near_of None = []
  near_of (Some q) = joined (λ j. joined (λ i. first_here q (q.r0 + j) (q.c0 + i)) (suc q.c1 - q.c0)) (suc q.r1 - q.r0)
