-- `geom::Aabb::intersects` meets its contract. Assumes nothing.
use Rattle.std.proofs.Common.{refl}
use Rattle.geom.specs.Box.{intersects_of}
use Rattle.geom.proofs.Aabb.intersects.Goals as goal

pub returns : goal.returns
unfolding intersects_of
returns c = refl
