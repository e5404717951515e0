-- `angle::upper_of` meets its contract. Assumes nothing.
use Rattle.angle.specs.Angles.{upper}
use Rattle.angle.proofs.upper_of.Goals as goal

pub returns : goal.returns
unfolding upper
returns c = simp (c.scaled_of.ensures, c.size_of.ensures)
