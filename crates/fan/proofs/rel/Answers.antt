-- `fan::rel`: the angle relative to the view's start. Assumes nothing.
use Rattle.fan.specs.Sides.{rel_of}
use Rattle.fan.proofs.rel.Goals as goal

pub returns : goal.returns
unfolding rel_of
returns c = simp (← c.sub.ensures, ← c.angle.ensures, ← c.normalize_angle.ensures)
