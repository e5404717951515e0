-- `site::tables_long` meets its contract. Assumes nothing.
use Rattle.site.specs.Soundness.{tables_long}
use Rattle.site.proofs.tables_long.Goals as goal

pub returns : goal.returns
unfolding tables_long
returns c = simp c.cells_of.ensures
