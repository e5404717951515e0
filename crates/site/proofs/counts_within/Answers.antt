-- `site::counts_within` meets its contract. Assumes nothing.
use mathlib.Core.Path.{refl}
use Rattle.site.specs.Soundness.{counts_within}
use Rattle.site.proofs.counts_within.Goals as goal

pub returns : goal.returns
unfolding counts_within
returns c = refl
