-- `site::cells_within` meets its contract. Assumes nothing.
use Rattle.site.specs.Soundness.{cells_within}
use Rattle.site.proofs.cells_within.Goals as goal

pub returns : goal.returns
unfolding cells_within
returns c = simp c.cells_of.ensures
