-- `site::head_in_domain` meets its contract. Assumes nothing.
use Rattle.site.specs.Soundness.{head_in_domain}
use Rattle.site.proofs.head_in_domain.Goals as goal

pub returns : goal.returns
unfolding head_in_domain
returns c = simp (c.point_in_domain.ensures, c.in_size-2.ensures, c.in_size.ensures)
