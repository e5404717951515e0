-- `polygon_at`: the highest of the ids in the cell that pass. Assumes nothing.
use Rattle.sight.proofs.Ways.{in_cell}
use Rattle.sight.proofs.polygon_at.Goals as goal

pub returns : goal.returns
returns c = in_cell _ _ _ _ _ _ _ _ _ c.highest_of.ensures c.items_at.ensures
