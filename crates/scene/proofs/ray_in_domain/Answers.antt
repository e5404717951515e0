-- `ray_in_domain`: origin, direction and length. Assumes nothing.
use Rattle.scene.specs.Asked.{ray_in_domain}
use Rattle.scene.proofs.ray_in_domain.Goals as goal

pub returns : goal.returns
unfolding ray_in_domain
returns c = rw (c.is_nan.ensures, c.point_in_domain-2.ensures, c.point_in_domain.ensures)
