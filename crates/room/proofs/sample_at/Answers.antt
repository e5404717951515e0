-- `room::sample_at` meets its contract: it reads the numbers of one sample. Assumes nothing.
use Rattle.room.specs.Records.{sample_at}
use Rattle.room.proofs.sample_at.Goals as goal

pub returns : goal.returns
unfolding sample_at
returns c = simp (c.at-6.ensures, c.at-5.ensures, c.at-4.ensures, c.at-3.ensures, c.at-2.ensures, c.at.ensures, c.samples_f.ensures, c.cast_from-hit.ensures, c.distances_f.ensures, c.samples_w.ensures)
