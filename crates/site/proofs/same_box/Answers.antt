-- `site::same_box` meets its contract. Assumes nothing.
use mathlib.Core.Path.{refl}
use Rattle.site.specs.Soundness.{same_box}
use Rattle.site.proofs.same_box.Goals as goal

pub returns : goal.returns
unfolding same_box
returns c = refl
