-- `site::point_in_domain` meets its contract. Assumes nothing.
use Rattle.site.specs.Domain.{point_in_domain}
use Rattle.site.proofs.point_in_domain.Goals as goal

pub returns : goal.returns
unfolding point_in_domain
returns c = simp (c.in_domain-2.ensures, c.in_domain.ensures)
