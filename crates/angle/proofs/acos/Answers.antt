-- `angle::acos` meets its contract. Assumes nothing.
use Rattle.angle.specs.Angles.{acos_of}
use Rattle.angle.proofs.acos.Goals as goal

pub returns : goal.returns
unfolding acos_of
returns c = simp (c.atan2.ensures, c.sqrt.ensures)
