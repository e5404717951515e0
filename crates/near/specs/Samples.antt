-- A worked example, computed by the definitions: the order is by first shared cell and then id, and a range that is turned round shares nothing. Assumes nothing.
use Rattle.std.specs.Prelude.{◌≡◌, refl, [], ◌∷◌, ℕ, suc, zero, None, Option, Some}
use Rattle.grid.specs.declared.CellRange.{CellRange}
use Rattle.tables.specs.Tables.{held_in}
use Rattle.near.specs.Shared.{near_of}

-- from a row and column to a row and column
abbrev from : ℕ → ℕ → ℕ → ℕ → CellRange
from r0 c0 r1 c1 = record { c0 = c0; r0 = r0; c1 = c1; r1 = r1 }

-- five polygons: two that begin in one cell of the box, one that begins in a later column, one without cells, one turned round
abbrev spans : ℕ → Option CellRange
spans zero = Some (from 1 2 2 3)
spans (suc zero) = Some (from 0 0 5 1)
spans (suc (suc zero)) = None
spans (suc (suc (suc zero))) = Some (from 0 0 9 9)
spans (suc (suc (suc (suc n)))) = Some (from 2 2 1 1)

-- near the cells of rows 1 to 3 and columns 1 to 2, in a grid of ten columns: 1 and 3 begin in row 1, column 1, and 0 in row 1, column 2
pub listed : near_of spans 5 (Some (from 1 1 3 2)) ≡ 1 ∷ 3 ∷ 0 ∷ []
unfolding near_of
listed = refl

-- they share three, six and two cells
pub counted : held_in spans 5 10 (Some (from 1 1 3 2)) ≡ 11
counted = refl
