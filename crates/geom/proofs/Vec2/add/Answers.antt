-- `geom::Vec2::add` meets its contract. Assumes nothing.
use Rattle.std.proofs.Common.{refl}
use Rattle.geom.specs.Vec.{add_of}
use Rattle.geom.proofs.Vec2.add.Goals as goal

pub returns : goal.returns
unfolding add_of
returns c = refl
