-- `angle::half_turn_of` meets its contract. Assumes nothing.
use Rattle.angle.specs.Angles.{half_turn}
use Rattle.angle.proofs.half_turn_of.Goals as goal

pub returns-then-b-a : goal.returns-then-b-a
unfolding half_turn
returns-then-b-a c = simp (c.flat_of.ensures, c.ratio_of.ensures, c.if-b-a.true)

pub returns : goal.returns
unfolding half_turn
returns c = simp (c.steep_of.ensures, c.ratio_of-2.ensures, c.if-b-a.false)
