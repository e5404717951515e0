-- `geom::Vec2::cross` meets its contract. Assumes nothing.
use Rattle.std.proofs.Common.{refl}
use Rattle.geom.specs.Vec.{cross_of}
use Rattle.geom.proofs.Vec2.cross.Goals as goal

pub returns : goal.returns
unfolding cross_of
returns c = refl
