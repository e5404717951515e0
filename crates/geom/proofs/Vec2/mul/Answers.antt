-- `geom::Vec2::mul` meets its contract. Assumes nothing.
use Rattle.std.proofs.Common.{refl}
use Rattle.geom.specs.Vec.{mul_of}
use Rattle.geom.proofs.Vec2.mul.Goals as goal

pub returns : goal.returns
unfolding mul_of
returns c = refl
