-- `angle::shifted` meets its contract. Assumes nothing.
use mathlib.Core.Path.{refl}
use Rattle.angle.specs.Angles.{shift}
use Rattle.angle.proofs.shifted.Goals as goal

pub returns : goal.returns
unfolding shift
returns c = refl
