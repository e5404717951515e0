-- `is_pair`: the three tests.
use Rattle.std.proofs.Common.{refl}
use Rattle.sweep.specs.Sweep.{is_pair}
use Rattle.sweep.proofs.is_pair.Goals as goal

pub returns : goal.returns
unfolding is_pair
returns c = refl
