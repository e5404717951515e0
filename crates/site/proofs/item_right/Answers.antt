-- `site::item_right` meets its contract. Assumes nothing.
use Rattle.site.specs.Soundness.{item_right}
use Rattle.site.proofs.item_right.Goals as goal

pub returns : goal.returns
unfolding item_right
returns c = simp c.len_of.ensures
