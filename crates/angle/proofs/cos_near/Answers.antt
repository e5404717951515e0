-- `angle::cos_near` meets its contract. Assumes nothing.
use mathlib.Core.Path.{refl}
use Rattle.angle.specs.Angles.{cos_near}
use Rattle.angle.proofs.cos_near.Goals as goal

pub returns : goal.returns
unfolding cos_near
returns c = refl
