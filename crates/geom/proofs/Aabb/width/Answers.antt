-- `geom::Aabb::width` meets its contract. Assumes nothing.
use Rattle.std.proofs.Common.{refl}
use Rattle.geom.specs.Box.{width_of}
use Rattle.geom.proofs.Aabb.width.Goals as goal

pub returns : goal.returns
unfolding width_of
returns c = refl
