-- `site::load_box` meets its contract. Assumes nothing.
use Rattle.site.specs.Domain.{load_box_of}
use Rattle.site.proofs.load_box.Goals as goal

pub returns : goal.returns
unfolding load_box_of
returns c = simp (c.load_point-2.ensures, c.load_point.ensures)
