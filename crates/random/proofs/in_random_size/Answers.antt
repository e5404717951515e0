-- `in_random_size`: two comparisons. Assumes nothing.
use Rattle.random.specs.Outcome.{in_random_size}
use Rattle.std.proofs.Common.{refl}
use Rattle.random.proofs.in_random_size.Goals as goal

pub returns : goal.returns
unfolding in_random_size
returns c = refl
