-- The numbers that stand for grids, ranges and answers in the probe. A query's are those of crate `grid`. Definitions only.
use Rattle.std.specs.Prelude.{◌≡◌, List, [], ◌∷◌, map, ℕ, ◌%◌, Float, None, Option, Some, Err, Ok, Result}
use Rattle.geom.specs.Vec.{vec}
use Rattle.grid.specs.declared.Grid.{Grid}
use Rattle.tables.specs.Tables as tables
use Rattle.walk.specs.declared.Course.{Course}
use Rattle.walk.specs.declared.Place.{Place}
use Rattle.walk.specs.Steps.{cell_number}
use Rattle.walk.specs.Tours.{tour, passer_by}
use Rattle.grid.specs.declared.CellRange.{CellRange}
use Rattle.refusal.specs.declared.Refusal.{Refusal}
use Rattle.refusal.specs.Numbers.{status_of}

-- the grid of six numbers: its low corner, the size of a cell, one over it, columns and rows
abbrev pub grid_of : Float → Float → Float → Float → ℕ → ℕ → Grid
grid_of gx gy cell inv cols rows = record { origin = vec gx gy; cell = cell; inv_cell = inv; cols = cols; rows = rows }

-- ---- a range is 1 and its four numbers, first column, first row, last column, last row; none is 0 and zeros
abbrev pub found : Option CellRange → ℕ
found (Some r) = 1
found None = 0

abbrev pub four_of : Option CellRange → List ℕ
four_of (Some r) = r.c0 ∷ r.r0 ∷ r.c1 ∷ r.r1 ∷ []
four_of None = 0 ∷ 0 ∷ 0 ∷ 0 ∷ []

abbrev pub built_count : Result ℕ Refusal → ℕ
built_count (Ok n) = n
built_count (Err k) = 0

-- every part of what building does
pub record Builds (o : tables.Outcome) (status : ℕ) (starts items : List ℕ) (count : ℕ) : Type 0 where
  pub status_is : status ≡ status_of o.answer
  pub starts_are : starts ≡ o.starts
  pub items_are : items ≡ o.items
  pub count_is : count ≡ built_count o.answer

-- ---- cells as 32-bit numbers: `as u32`. The grid of a site has at most 1,048,576 cells, so that it loses nothing there
abbrev pub low : ℕ → ℕ
low c = c % 4294967296

abbrev pub lows : List ℕ → List ℕ
lows cells = map low cells

-- the cells of the whole walk from the place p on
unfoldable pub cells_along : Course → Place → List ℕ
cells_along k p = lows (map (cell_number k) (tour passer_by k p tt).places)
