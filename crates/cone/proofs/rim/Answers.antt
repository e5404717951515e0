-- `cone::rim` meets its contract. Assumes nothing.
use Rattle.cone.specs.Cone.{rim_of}
use Rattle.cone.proofs.rim.Goals as goal

pub returns : goal.returns
unfolding rim_of
returns c = simp (c.add.ensures, c.mul.ensures, c.from_angle.ensures)
