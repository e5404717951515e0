-- `too_many`: the two limits. Assumes nothing.
use mathlib.Core.Path.{refl}
use Rattle.build.specs.Refusals.{too_many}
use Rattle.build.proofs.too_many.Goals as goal

pub returns : goal.returns
unfolding too_many
returns c = refl
