-- `cone::ViewCone::in_domain` meets its contract: origin, range, direction and field of view. Assumes nothing.
use Rattle.cone.specs.Domain.{cone_in_domain}
use Rattle.cone.proofs.ViewCone.in_domain.Goals as goal

pub returns : goal.returns
unfolding cone_in_domain
returns c = rw (c.is_nan.ensures, c.point_in_domain.ensures)
