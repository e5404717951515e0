-- What the lent tables say: `starts` has where each cell's items start in `items`, and one number more, where they end (`grid.rs`, "CSR layout").
-- A table may be lent longer than it is. Document 01, "Site and grid" and "Sound tables". Definitions only.
use Rattle.std.specs.Prelude.{ℕ, suc, ◌+◌, ◌-◌, ◌*◌, ◌≤◌, ◌<◌, List, length, get_or}
use Rattle.lists.specs.Lists.{joined, sum_to}
use Rattle.lists.specs.Parts.{part}
use Rattle.lists.specs.Members.{Rises, In}
use Rattle.grid.specs.Stamps.{firsts}
use Rattle.grid.specs.declared.CellRange.{CellRange}
use Rattle.grid.specs.declared.Grid.{Grid}
use Rattle.grid.specs.declared.Tally.{Tally}

-- the items of the cell c, whatever the tables hold
abbrev pub cell_of : List ℕ → List ℕ → ℕ → List ℕ
cell_of starts items c = part (get_or starts c 0) (get_or starts (suc c) 0) items

-- the items of n cells from the cell c on, cell by cell
unfoldable pub cells_from : List ℕ → List ℕ → ℕ → ℕ → List ℕ
cells_from starts items c n = joined (λ k. cell_of starts items (c + k)) n

-- the items of k rows from the row r on: of each, n cells from the column c on
unfoldable pub rows_from : List ℕ → List ℕ → ℕ → ℕ → ℕ → ℕ → ℕ → List ℕ
unfolding cells_from
rows_from starts items cols c n r k = joined (λ j. cells_from starts items ((r + j) * cols + c) n) k

-- the entries of a range, row by row, column by column. A range whose first column or row is past its last has none
unfoldable pub entries_in : Grid → CellRange → List ℕ → List ℕ → List ℕ
unfolding rows_from
entries_in g r starts items = rows_from starts items g.cols r.c0 (suc r.c1 - r.c0) r.r0 (suc r.r1 - r.r0)

-- how many they are: the sum, over the range's cells, of the entries that each holds
unfoldable pub entry_count : Grid → CellRange → List ℕ → List ℕ → ℕ
entry_count g r starts items =
    sum_to (λ j. sum_to (λ i. length (cell_of starts items ((r.r0 + j) * g.cols + r.c0 + i))) (suc r.c1 - r.c0)) (suc r.r1 - r.r0)

-- the cell of the row and column lies in the range
pub record Inside (r : CellRange) (row col : ℕ) : Type 0 where
  pub below_row : r.r0 ≤ row
  pub above_row : row ≤ r.r1
  pub below_col : r.c0 ≤ col
  pub above_col : col ≤ r.c1

-- the id is an entry of a cell of the range
abbrev pub EntryOf : Grid → CellRange → List ℕ → List ℕ → ℕ → Type 0
EntryOf g r starts items id = (row : ℕ) × (col : ℕ) × Inside r row col × In id (cell_of starts items (row * g.cols + col))

-- SOUND TABLES, as the queries need them. A caller shows them by document 01's tests of lent tables (refusal 6), field by field:
-- "columns and rows at least 1"; "starts number cells plus one"; "never fall"; "end at the item count", which is at most the length lent for the items
pub record SoundGrid (cols rows : ℕ) (starts items : List ℕ) : Type 0 where
  pub has_cols : 0 < cols
  pub has_rows : 0 < rows
  pub starts_len : cols * rows < length starts
  pub rise : Rises starts 0 (cols * rows)
  pub last : get_or starts (cols * rows) 0 ≤ length items

-- every item names an id below n: "items name polygons", and as many marks as polygons are lent (refusals 6 and 7)
abbrev pub Named : ℕ → List ℕ → List ℕ → ℕ → Type 0
Named cells starts items n = (i : ℕ) → i < get_or starts cells 0 → get_or items i 0 < n

-- the n cells from the cell c on are one part of the items
pub record RowIn (starts items : List ℕ) (c n : ℕ) : Type 0 where
  pub inside : c + n < length starts
  pub ordered : get_or starts c 0 ≤ get_or starts (c + n) 0
  pub within : get_or starts (c + n) 0 ≤ length items

-- that part
unfoldable pub row_part : List ℕ → List ℕ → ℕ → ℕ → List ℕ
row_part starts items c n = part (get_or starts c 0) (get_or starts (c + n) 0) items

-- ids met first and entries read
unfoldable pub tally_of : ℕ → List ℕ → List ℕ → Tally
unfolding firsts
tally_of e m xs = record { found = length (firsts e m xs); read = length xs }
