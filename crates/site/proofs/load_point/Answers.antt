-- `site::load_point` meets its contract. Assumes nothing.
use Rattle.site.specs.Domain.{load_point_of}
use Rattle.site.proofs.load_point.Goals as goal

pub returns : goal.returns
unfolding load_point_of
returns c = simp (c.load-2.ensures, c.load.ensures)
