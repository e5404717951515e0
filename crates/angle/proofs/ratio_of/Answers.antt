-- `angle::ratio_of` meets its contract. Assumes nothing.
use Rattle.angle.specs.Angles.{ratio}
use Rattle.angle.proofs.ratio_of.Goals as goal

pub returns-then-n-d : goal.returns-then-n-d
unfolding ratio
returns-then-n-d c = simp (c.small_of.ensures, c.if-n-d.true)

pub returns-then-n-d-2 : goal.returns-then-n-d-2
unfolding ratio
returns-then-n-d-2 c = simp (c.arc_of.ensures, c.shifted.ensures, c.if-n-d.false, c.if-n-d-2.true)

pub returns-then-n-d-3 : goal.returns-then-n-d-3
unfolding ratio
returns-then-n-d-3 c = simp (c.arc_of-then-n-d-3.ensures, c.shifted-then-n-d-3.ensures, c.if-n-d.false, c.if-n-d-2.false, c.if-n-d-3.true)

pub returns-then-n-d-4 : goal.returns-then-n-d-4
unfolding ratio
returns-then-n-d-4 c = simp (c.arc_of-then-n-d-4.ensures, c.shifted-then-n-d-4.ensures, c.if-n-d.false, c.if-n-d-2.false, c.if-n-d-3.false, c.if-n-d-4.true)

pub returns : goal.returns
unfolding ratio
returns c = simp (c.arc_of-2.ensures, c.shifted-2.ensures, c.if-n-d.false, c.if-n-d-2.false, c.if-n-d-3.false, c.if-n-d-4.false)
