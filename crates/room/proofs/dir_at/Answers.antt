-- `room::dir_at` meets its contract: it reads the numbers of one direction. Assumes nothing.
use Rattle.room.specs.Records.{dir_at}
use Rattle.room.proofs.dir_at.Goals as goal

pub returns : goal.returns
unfolding dir_at
returns c = simp (c.at-2.ensures, c.at.ensures, c.dirs_f.ensures)
