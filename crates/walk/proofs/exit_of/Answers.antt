-- `walk::exit_of` meets its contract. Assumes nothing.
use Rattle.walk.specs.Steps.{exit_of}
use Rattle.walk.proofs.exit_of.Goals as goal

pub returns : goal.returns
unfolding exit_of
returns c = simp (← c.min.ensures, ← c.min-2.ensures)
