-- `room::tie_at` meets its contract: it reads the tag of one sample. Assumes nothing.
use Rattle.room.specs.Records.{tie_at}
use Rattle.room.proofs.tie_at.Goals as goal

pub returns : goal.returns
unfolding tie_at
returns c = simp (c.at.ensures, c.samples_w.ensures)
