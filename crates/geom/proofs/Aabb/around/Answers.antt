-- `geom::Aabb::around` meets its contract. Assumes nothing.
use Rattle.std.proofs.Common.{refl}
use Rattle.geom.specs.Box.{around_of}
use Rattle.geom.proofs.Aabb.around.Goals as goal

pub returns : goal.returns
unfolding around_of
returns c = refl
