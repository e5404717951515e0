-- `angle::left_over` meets its contract. Assumes nothing.
use mathlib.Core.Path.{refl}
use Rattle.angle.specs.Angles.{left}
use Rattle.angle.proofs.left_over.Goals as goal

pub returns : goal.returns
unfolding left
returns c = refl
