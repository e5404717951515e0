-- `angle::steep_of` meets its contract. Assumes nothing.
use Rattle.angle.specs.Angles.{steep}
use Rattle.angle.proofs.steep_of.Goals as goal

pub returns-then-x : goal.returns-then-x
unfolding steep
returns-then-x c = simp c.if-x.true

pub returns : goal.returns
unfolding steep
returns c = simp c.if-x.false
