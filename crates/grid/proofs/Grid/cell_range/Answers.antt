-- `grid::Grid::cell_range` meets its contract. Assumes nothing.
use mathlib.Core.Path.{◌∙◌}
use Rattle.grid.specs.Range.{cell_at, range_of}
use Rattle.grid.proofs.Direct.{last_same}
use Rattle.grid.proofs.Grid.cell_range.Goals as goal

pub returns : goal.returns
unfolding range_of cell_at
returns c =
    c.held.ensures
    ∙ rw (c.is_empty.ensures, c.at_least_one-2.ensures, c.at_least_one.ensures, last_same c.args.self.cols, last_same c.args.self.rows)
