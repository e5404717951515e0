-- `geom::Vec2::length_sq` meets its contract. Assumes nothing.
use Rattle.geom.specs.Vec.{length_sq_of}
use Rattle.geom.proofs.Vec2.length_sq.Goals as goal

pub returns : goal.returns
unfolding length_sq_of
returns c = simp (← c.dot.ensures)
