-- `geom::Vec2::lerp` meets its contract. Assumes nothing.
use Rattle.geom.specs.Vec.{lerp_of}
use Rattle.geom.proofs.Vec2.lerp.Goals as goal

pub returns : goal.returns
unfolding lerp_of
returns c = simp (← c.sub.ensures, ← c.mul.ensures, ← c.add.ensures)
