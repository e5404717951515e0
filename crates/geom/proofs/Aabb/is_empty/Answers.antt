-- `geom::Aabb::is_empty` meets its contract. Assumes nothing.
use Rattle.std.proofs.Common.{refl}
use Rattle.geom.specs.Box.{is_empty_of}
use Rattle.geom.proofs.Aabb.is_empty.Goals as goal

pub returns : goal.returns
unfolding is_empty_of
returns c = refl
