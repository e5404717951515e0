-- A step of the walk: the body of the loop of the Rust's `traverse_ray` (grid.rs). Document 01, "Site and grid": a step that would stay in its cell ends the walk.
-- Definitions only.
use Rattle.std.specs.Prelude.{cond, ℕ, ◌+◌, ◌-◌, ◌*◌, ◌<◌, ltb, Float, None, Option, Some}
use Rattle.std.specs.Float.Ieee.{lt, le}
use Rattle.num.specs.Ops.{◌⊕◌}
use Rattle.num.specs.Num.{min_of}
use Rattle.walk.specs.declared.Turn.{Turn}
use Rattle.walk.specs.declared.Turn.TheVariants.{Up, Down, Stay}
use Rattle.walk.specs.declared.Course.{Course}
use Rattle.walk.specs.declared.Place.{Place}

-- the number of the place's cell: row by row, column by column
unfoldable pub cell_number : Course → Place → ℕ
cell_number k p = p.row * k.cols + p.col

-- the Rust's `t_exit`
unfoldable pub exit_of : Course → Place → Float
exit_of k p = min_of (min_of p.next_x p.next_y) k.t1

-- the index one step on, of count indices
unfoldable pub moved_to : ℕ → ℕ → Turn → Option ℕ
moved_to i count Up = cond (ltb (i + 1) count) (Some (i + 1)) None
moved_to i count Down = cond (ltb 0 i) (Some (i - 1)) None
moved_to i count Stay = None

-- the step along x, to the column that `moved_to` gives; and along y
abbrev pub along_x : Course → Place → Option ℕ → Option Place
along_x k p (Some c) = Some (record { col = c; row = p.row; next_x = p.next_x ⊕ k.x.delta; next_y = p.next_y; enter = exit_of k p })
along_x k p None = None

abbrev pub along_y : Course → Place → Option ℕ → Option Place
along_y k p (Some r) = Some (record { col = p.col; row = r; next_x = p.next_x; next_y = p.next_y ⊕ k.y.delta; enter = exit_of k p })
along_y k p None = None

-- the next place: none where the ray ends in this cell, or the step leads off the grid or nowhere
unfoldable pub step_of : Course → Place → Option Place
step_of k p =
    cond (le k.t1 (exit_of k p)) None
    (cond (lt p.next_x p.next_y) (along_x k p (moved_to p.col k.cols k.x.turn))
    (along_y k p (moved_to p.row k.rows k.y.turn)))

-- the place is a cell of the grid
pub record OnGrid (k : Course) (p : Place) : Type 0 where
  pub col_in : p.col < k.cols
  pub row_in : p.row < k.rows

-- how many steps an axis with count indices has left
abbrev pub left_of : ℕ → ℕ → Turn → ℕ
left_of i count Up = count - (i + 1)
left_of i count Down = i
left_of i count Stay = 0

-- and both axes together: what falls with each step
unfoldable pub left : Course → Place → ℕ
left k p = left_of p.col k.cols k.x.turn + left_of p.row k.rows k.y.turn
