-- `site::edge` meets its contract. Assumes nothing.
use Rattle.site.specs.Tables.{edge_of}
use Rattle.site.proofs.edge.Goals as goal

pub returns : goal.returns
unfolding edge_of
returns c = simp (c.point_at-2.ensures, c.edge_end.ensures, c.point_at.ensures)
