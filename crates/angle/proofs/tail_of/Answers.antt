-- `angle::tail_of` meets its contract. Assumes nothing.
use mathlib.Core.Path.{refl}
use Rattle.angle.specs.Angles.{tail}
use Rattle.angle.proofs.tail_of.Goals as goal

pub returns : goal.returns
unfolding tail
returns c = refl
