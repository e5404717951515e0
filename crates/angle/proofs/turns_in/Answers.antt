-- `angle::turns_in` meets its contract. Assumes nothing.
use mathlib.Core.Path.{refl}
use Rattle.angle.specs.Angles.{turns}
use Rattle.angle.proofs.turns_in.Goals as goal

pub returns : goal.returns
unfolding turns
returns c = refl
