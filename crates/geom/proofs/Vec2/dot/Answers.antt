-- `geom::Vec2::dot` meets its contract. Assumes nothing.
use Rattle.std.proofs.Common.{refl}
use Rattle.geom.specs.Vec.{dot_of}
use Rattle.geom.proofs.Vec2.dot.Goals as goal

pub returns : goal.returns
unfolding dot_of
returns c = refl
