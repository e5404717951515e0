-- `geom::Aabb::distance_sq_to` meets its contract. Assumes nothing.
use Rattle.geom.specs.Box.{distance_sq_to_of}
use Rattle.geom.proofs.Aabb.distance_sq_to.Goals as goal

pub returns : goal.returns
unfolding distance_sq_to_of
returns c = simp (← c.max.ensures, ← c.max-dx.ensures, ← c.max-2.ensures, ← c.max-dy.ensures)
