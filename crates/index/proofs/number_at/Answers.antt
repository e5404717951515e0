-- `number_at`: the number read. Assumes nothing.
use Rattle.std.proofs.Common.{◌∙◌}
use Rattle.room.specs.Records.{edge_at}
use Rattle.index.proofs.number_at.Goals as goal

pub returns : goal.returns
unfolding edge_at
returns c = c.at.ensures ∙ rw (c.edges_w.ensures)
