-- `geom::Vec2::sub` meets its contract. Assumes nothing.
use Rattle.std.proofs.Common.{refl}
use Rattle.geom.specs.Vec.{sub_of}
use Rattle.geom.proofs.Vec2.sub.Goals as goal

pub returns : goal.returns
unfolding sub_of
returns c = refl
