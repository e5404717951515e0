-- `Recent::push`: the id goes into the slot, and the slot moves on. Assumes nothing.
use Rattle.sight.specs.Casting.{pushed}
use mathlib.Core.Path.{refl}
use Rattle.sight.proofs.Recent.push.Goals as goal

pub returns : goal.returns
unfolding pushed
returns c = refl
