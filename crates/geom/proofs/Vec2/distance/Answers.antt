-- `geom::Vec2::distance` meets its contract. Assumes nothing.
use Rattle.geom.specs.Vec.{distance_of}
use Rattle.geom.proofs.Vec2.distance.Goals as goal

pub returns : goal.returns
unfolding distance_of
returns c = simp (← c.sub.ensures, ← c.length.ensures)
