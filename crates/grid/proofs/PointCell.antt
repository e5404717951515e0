-- THE CELL OF A POINT: the range of the box from p to p is nothing where p is off the grid, and else begins in the cell that its column and row give.
-- Assumes nothing.
use Rattle.std.proofs.Common.{None, Some}
use mathlib.Core.Path.{◌≡◌, refl, sym}
use mathlib.Core.Bool.{Bool, true, false, cond, not, ◌&&◌, ◌||◌}
use Prim.Native.Nat.{◌+◌, ◌-◌, ◌^◌, ◌<◌}
use native.Mathlib.Omega.{arith}
use lib.Ieee.{Float, lt, le}
use Rattle.num.specs.Ops.{◌⊖◌, ◌⊗◌, zero_f}
use Rattle.num.specs.Num.{floor_of}
use Rattle.geom.specs.declared.Vec2.{Vec2}
use Rattle.geom.specs.Box.{box, is_empty_of}
use Rattle.grid.specs.declared.CellRange.{CellRange}
use Rattle.grid.specs.declared.Grid.{Grid}
use Rattle.grid.specs.Range.{count_f, cell_at, cell_index, range_by, range_of, is_off}
use Rattle.grid.proofs.Direct.{floor_below, floor_above, last_same}

-- five tests in turn are their disjunction
five : {A : Type 0} (a b c d e : Bool) (x y : A) → cond a x (cond b x (cond c x (cond d x (cond e x y)))) ≡ cond (a || b || c || d || e) x y
five true b c d e x y = refl
five false true c d e x y = refl
five false false true d e x y = refl
five false false false true e x y = refl
five false false false false e x y = refl

module _ (g : Grid) (p : Vec2) where
  -- the column and the row, before the floor
  abbrev pub column_of : Float
  column_of = (p.x ⊖ g.origin.x) ⊗ g.inv_cell

  abbrev pub row_of : Float
  row_of = (p.y ⊖ g.origin.y) ⊗ g.inv_cell

  abbrev pub cell_there : CellRange
  cell_there = record {
    c0 = cell_index (floor_of column_of) (g.cols - 1);
    r0 = cell_index (floor_of row_of) (g.rows - 1);
    c1 = cell_index (floor_of column_of) (g.cols - 1);
    r1 = cell_index (floor_of row_of) (g.rows - 1);
  }

  pub point_range : g.cols < 2 ^ 32 → g.rows < 2 ^ 32 → range_of g (box p p) ≡ cond (is_off (g.cols - 1 + 1) (g.rows - 1 + 1) p column_of row_of) None (Some cell_there)
  unfolding range_of range_by cell_at is_off is_empty_of
  point_range hc hr =
      rw (floor_below column_of, floor_below row_of, sym (last_same g.cols), sym (last_same g.rows))
      (rw (floor_above (g.cols - 1 + 1) column_of (omega arith) (omega arith), floor_above (g.rows - 1 + 1) row_of (omega arith) (omega arith), last_same g.cols, last_same g.rows)
      (five (lt column_of zero_f) (lt row_of zero_f) (le (count_f (g.cols - 1 + 1)) column_of) (le (count_f (g.rows - 1 + 1)) row_of) (not (le p.x p.x && le p.y p.y)) None (Some cell_there)))
