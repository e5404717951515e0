-- `angle::scaled_of` meets its contract. Assumes nothing.
use Rattle.angle.specs.Angles.{scaled}
use Rattle.angle.proofs.scaled_of.Goals as goal

pub returns-then-y : goal.returns-then-y
unfolding scaled
returns-then-y c = simp (c.half_turn_of.ensures, c.if-a.true, c.if-y.true)

pub returns-then-a : goal.returns-then-a
unfolding scaled
returns-then-a c = simp (c.half_turn_of-then-a.ensures, c.if-a.true, c.if-y.false)

pub returns : goal.returns
unfolding scaled
returns c = simp (c.half_turn_of-2.ensures, c.if-a.false)
