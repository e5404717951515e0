-- `bounds::in_size` meets its contract. Assumes nothing.
use mathlib.Core.Path.{refl}
use Rattle.bounds.specs.Domain.{in_size}
use Rattle.bounds.proofs.in_size.Goals as goal

pub returns : goal.returns
unfolding in_size
returns c = refl
