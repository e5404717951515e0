-- `cone::ViewCone::is_full` meets its contract. Assumes nothing.
use mathlib.Core.Path.{refl}
use Rattle.cone.specs.Cone.{is_full_of}
use Rattle.cone.proofs.ViewCone.is_full.Goals as goal

pub returns : goal.returns
unfolding is_full_of
returns c = refl
