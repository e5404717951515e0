-- `cone::ViewCone::start_angle` meets its contract: the test is the definition's. Assumes nothing.
use Rattle.cone.specs.Cone.{start_angle_of}
use Rattle.cone.proofs.ViewCone.start_angle.Goals as goal

pub returns-then-is_full : goal.returns-then-is_full
unfolding start_angle_of
returns-then-is_full c = simp (← c.is_full.ensures, c.if-is_full.true)

pub returns : goal.returns
unfolding start_angle_of
returns c = simp (c.fov_clamped.ensures, ← c.is_full.ensures, c.if-is_full.false)
