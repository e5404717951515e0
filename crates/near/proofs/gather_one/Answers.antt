-- `near::gather_one` meets its contract. Assumes nothing.
use Rattle.near.proofs.Gathering.{one_nothing, one_same}
use Rattle.near.proofs.gather_one.Goals as goal

pub gather_cells-requires : goal.gather_cells-requires
gather_cells-requires c = record { small = (rw c.in-Some.is at c.requires.small_in.0, c.requires.small_in.1); found_le_id = c.requires.found_le_id }

pub returns-in-None : goal.returns-in-None
returns-in-None c = one_nothing _ _ _ _ _ c.in-None.is

pub returns-in-Some : goal.returns-in-Some
returns-in-Some c = one_same _ _ _ _ _ _ _ _ c.in-Some.is c.gather_cells.ensures
