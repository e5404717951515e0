-- `angle::is_left` meets its contract. Assumes nothing.
use Rattle.angle.specs.Angles.{leftward}
use Rattle.angle.proofs.is_left.Goals as goal

pub returns-then-x : goal.returns-then-x
unfolding leftward
returns-then-x c = simp c.if-x.true

pub returns : goal.returns
unfolding leftward
returns c = simp c.if-x.false
