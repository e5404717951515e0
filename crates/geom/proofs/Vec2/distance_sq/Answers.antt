-- `geom::Vec2::distance_sq` meets its contract. Assumes nothing.
use Rattle.geom.specs.Vec.{distance_sq_of}
use Rattle.geom.proofs.Vec2.distance_sq.Goals as goal

pub returns : goal.returns
unfolding distance_sq_of
returns c = simp (← c.sub.ensures, ← c.length_sq.ensures)
