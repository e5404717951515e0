-- `geom::Vec2::angle` meets its contract. Assumes nothing.
use Rattle.geom.specs.Vec.{angle_of}
use Rattle.geom.proofs.Vec2.angle.Goals as goal

pub returns : goal.returns
unfolding angle_of
returns c = simp (← c.atan2.ensures)
