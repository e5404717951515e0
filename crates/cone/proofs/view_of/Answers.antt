-- `cone::view_of` meets its contract. Assumes nothing.
use Rattle.cone.proofs.view_of.Goals as goal

pub returns : goal.returns
returns c = simp (c.start_angle.ensures, c.fov_of.ensures, c.is_full.ensures)
