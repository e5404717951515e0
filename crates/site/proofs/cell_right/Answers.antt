-- `site::cell_right` meets its contract. Assumes nothing.
use Rattle.site.proofs.Accessing.{endless}
use Rattle.site.specs.Soundness.{cell_right}
use Rattle.site.proofs.cell_right.Goals as goal

pub returns : goal.returns
unfolding cell_right
returns c = simp endless
