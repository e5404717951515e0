-- `cone::ViewCone::fov_clamped` meets its contract. Assumes nothing.
use Rattle.cone.specs.Cone.{fov_clamped_of}
use Rattle.cone.proofs.ViewCone.fov_clamped.Goals as goal

pub returns : goal.returns
unfolding fov_clamped_of
returns c = simp c.clamp.ensures
