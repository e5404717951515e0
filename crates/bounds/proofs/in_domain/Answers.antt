-- `bounds::in_domain` meets its contract. Assumes nothing.
use mathlib.Core.Path.{refl}
use Rattle.bounds.specs.Domain.{in_domain}
use Rattle.bounds.proofs.in_domain.Goals as goal

pub returns : goal.returns
unfolding in_domain
returns c = refl
