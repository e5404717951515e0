-- `angle::quadrant_of` meets its contract. Assumes nothing.
use mathlib.Core.Path.{refl}
use Rattle.angle.specs.Angles.{quadrant}
use Rattle.angle.proofs.quadrant_of.Goals as goal

pub returns : goal.returns
unfolding quadrant
returns c = refl
