-- `angle::atan2` meets its contract. Assumes nothing.
use Rattle.angle.specs.Angles.{atan2_of}
use Rattle.angle.proofs.atan2.Goals as goal

pub returns-then-y : goal.returns-then-y
unfolding atan2_of
returns-then-y c = simp (c.on_axis.ensures, c.if-y.true)

pub returns-then-y-2 : goal.returns-then-y-2
unfolding atan2_of
returns-then-y-2 c = simp (c.upper_of.ensures, c.if-y.false, c.if-y-2.true)

pub returns : goal.returns
unfolding atan2_of
returns c = simp (c.upper_of-2.ensures, c.if-y.false, c.if-y-2.false)
