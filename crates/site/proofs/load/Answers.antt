-- `site::load` meets its contract. Assumes nothing.
use mathlib.Core.Path.{refl}
use Rattle.site.specs.Domain.{load_of}
use Rattle.site.proofs.load.Goals as goal

pub returns : goal.returns
unfolding load_of
returns c = refl
