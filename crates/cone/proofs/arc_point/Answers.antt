-- `cone::arc_point` meets its contract. Assumes nothing.
use Rattle.cone.specs.Cone.{arc_point_of}
use Rattle.cone.proofs.arc_point.Goals as goal

pub returns : goal.returns
unfolding arc_point_of
returns c = simp c.rim.ensures
