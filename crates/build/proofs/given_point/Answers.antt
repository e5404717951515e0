-- `given_point`: both numbers loaded. Assumes nothing.
use Rattle.site.specs.Domain.{load_point_of}
use Rattle.build.proofs.given_point.Goals as goal

pub returns : goal.returns
unfolding load_point_of
returns c = simp (c.load-2.ensures, c.at-2.ensures, c.load.ensures, c.at.ensures)
