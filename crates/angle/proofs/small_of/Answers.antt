-- `angle::small_of` meets its contract. Assumes nothing.
use Rattle.angle.specs.Angles.{small}
use Rattle.angle.proofs.small_of.Goals as goal

pub returns : goal.returns
unfolding small
returns c = simp c.tail_of.ensures
