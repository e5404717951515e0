-- `angle::flat_of` meets its contract. Assumes nothing.
use Rattle.angle.specs.Angles.{flat}
use Rattle.angle.proofs.flat_of.Goals as goal

pub returns-then-x : goal.returns-then-x
unfolding flat
returns-then-x c = simp c.if-x.true

pub returns : goal.returns
unfolding flat
returns c = simp c.if-x.false
