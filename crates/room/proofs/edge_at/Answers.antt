-- `room::edge_at` meets its contract: it reads the numbers of one edge. Assumes nothing.
use Rattle.room.specs.Records.{edge_at}
use Rattle.room.proofs.edge_at.Goals as goal

pub returns : goal.returns
unfolding edge_at
returns c = simp (c.at-8.ensures, c.at-7.ensures, c.at-6.ensures, c.at-5.ensures, c.at-4.ensures, c.at-3.ensures, c.at-2.ensures, c.at.ensures, c.edges_w.ensures, c.edges_f.ensures)
