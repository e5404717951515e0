-- `cone::ViewCone::loaded` meets its contract: the four numbers and the origin loaded. Assumes nothing.
use Rattle.cone.specs.Domain.{load_cone_of}
use Rattle.cone.proofs.ViewCone.loaded.Goals as goal

pub returns : goal.returns
unfolding load_cone_of
returns c = rw (c.load_point.ensures, c.load.ensures, c.load-2.ensures, c.load-3.ensures)
