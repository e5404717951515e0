-- `geom::Vec2::from_angle` meets its contract. Assumes nothing.
use Rattle.geom.specs.Vec.{from_angle_of}
use Rattle.geom.proofs.Vec2.from_angle.Goals as goal

pub returns : goal.returns
unfolding from_angle_of
returns c = simp (← c.sin_cos-a.ensures.1, ← c.sin_cos-a.ensures.0)
