-- `angle::arc_of` meets its contract. Assumes nothing.
use Rattle.angle.specs.Angles.{arc}
use Rattle.angle.proofs.arc_of.Goals as goal

pub returns : goal.returns
unfolding arc
returns c = simp c.tail_of.ensures
