-- `grid::box_from` meets its contract. Assumes nothing.
use Rattle.grid.specs.Boxes.{box_from}
use Rattle.grid.proofs.box_from.Goals as goal

pub returns : goal.returns
unfolding box_from
returns c = simp (c.at-4.ensures, c.at-3.ensures, c.at-2.ensures, c.at.ensures)
