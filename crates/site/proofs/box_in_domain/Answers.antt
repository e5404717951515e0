-- `site::box_in_domain` meets its contract. Assumes nothing.
use Rattle.site.specs.Domain.{box_in_domain}
use Rattle.site.proofs.box_in_domain.Goals as goal

pub returns : goal.returns
unfolding box_in_domain
returns c = simp (c.point_in_domain-2.ensures, c.point_in_domain.ensures)
