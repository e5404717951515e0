-- `geom::Aabb::union` meets its contract. Assumes nothing.
use Rattle.geom.specs.Box.{union_of}
use Rattle.geom.proofs.Aabb.union.Goals as goal

pub returns : goal.returns
unfolding union_of
returns c = simp (← c.min.ensures, ← c.min-2.ensures, ← c.max.ensures, ← c.max-2.ensures)
