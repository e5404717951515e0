-- `room::merged_at` meets its contract: it reads the numbers of one merged event. Assumes nothing.
use Rattle.room.specs.Records.{merged_at}
use Rattle.room.proofs.merged_at.Goals as goal

pub returns : goal.returns
unfolding merged_at
returns c = simp (c.at-4.ensures, c.at-3.ensures, c.at-2.ensures, c.at.ensures, c.merged_f.ensures, c.merged_w.ensures)
