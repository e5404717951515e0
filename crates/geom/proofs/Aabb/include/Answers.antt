-- `geom::Aabb::include` meets its contract. Assumes nothing.
use Rattle.geom.specs.Box.{include_of}
use Rattle.geom.proofs.Aabb.include.Goals as goal

pub returns : goal.returns
unfolding include_of
returns c = simp (← c.min.ensures, ← c.min-2.ensures, ← c.max.ensures, ← c.max-2.ensures)
