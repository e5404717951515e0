-- `angle::on_axis` meets its contract. Assumes nothing.
use Rattle.angle.specs.Angles.{on_axis}
use Rattle.angle.proofs.on_axis.Goals as goal

pub returns-then-y : goal.returns-then-y
unfolding on_axis
returns-then-y c = simp (← c.is_left.ensures, c.if-is_left.true, c.if-y.true)

pub returns-then-is_left : goal.returns-then-is_left
unfolding on_axis
returns-then-is_left c = simp (← c.is_left.ensures, c.if-is_left.true, c.if-y.false)

pub returns : goal.returns
unfolding on_axis
returns c = simp (← c.is_left.ensures, c.if-is_left.false)
