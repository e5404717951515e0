-- `angle::sin_near` meets its contract. Assumes nothing.
use mathlib.Core.Path.{refl}
use Rattle.angle.specs.Angles.{sin_near}
use Rattle.angle.proofs.sin_near.Goals as goal

pub returns : goal.returns
unfolding sin_near
returns c = refl
