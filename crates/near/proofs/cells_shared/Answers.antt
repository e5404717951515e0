-- `near::cells_shared` meets its contract. Assumes nothing.
use Rattle.near.proofs.Ways.{met}
use Rattle.near.proofs.cells_shared.Goals as goal

pub returns-in-None : goal.returns-in-None
returns-in-None c = rw c.in-None.is

pub returns-in-Some : goal.returns-in-Some
returns-in-Some c = met _ _ _ _ _ _ _ c.in-Some.is c.max.ensures c.max-in-Some.ensures c.min.ensures c.min-in-Some.ensures
