-- `geom::Aabb::height` meets its contract. Assumes nothing.
use Rattle.std.proofs.Common.{refl}
use Rattle.geom.specs.Box.{height_of}
use Rattle.geom.proofs.Aabb.height.Goals as goal

pub returns : goal.returns
unfolding height_of
returns c = refl
