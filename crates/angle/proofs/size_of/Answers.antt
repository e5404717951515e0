-- `angle::size_of` meets its contract. Assumes nothing.
use Rattle.angle.specs.Angles.{size_of}
use Rattle.angle.proofs.size_of.Goals as goal

pub returns-then-x : goal.returns-then-x
unfolding size_of
returns-then-x c = simp c.if-x.true

pub returns : goal.returns
unfolding size_of
returns c = simp c.if-x.false
