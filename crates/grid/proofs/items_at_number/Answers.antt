-- `grid::items_at_number` meets its contract. Assumes nothing.
use lib.ListN.{length}
use mathlib.Core.Path.{ap}
use Rattle.grid.proofs.items_at_number.Goals as goal

pub returns : goal.returns
returns c = ap length c.items_at.ensures
