-- `geom::Aabb::contains` meets its contract. Assumes nothing.
use Rattle.std.proofs.Common.{refl}
use Rattle.geom.specs.Box.{contains_of}
use Rattle.geom.proofs.Aabb.contains.Goals as goal

pub returns : goal.returns
unfolding contains_of
returns c = refl
