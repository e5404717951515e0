-- `fan::is_far`: the squared distance to the box against the squared range. Assumes nothing.
use Rattle.fan.specs.Fan.{is_far}
use Rattle.fan.proofs.is_far.Goals as goal

pub returns : goal.returns
unfolding is_far
returns c = simp (← c.box_at.ensures, ← c.distance_sq_to.ensures)
