-- `geom::Vec2::neg` meets its contract. Assumes nothing.
use Rattle.std.proofs.Common.{refl}
use Rattle.geom.specs.Vec.{neg_of}
use Rattle.geom.proofs.Vec2.neg.Goals as goal

pub returns : goal.returns
unfolding neg_of
returns c = refl
