-- `rng::Rng::next_u64` meets its contract. Assumes nothing.
use Rattle.std.proofs.Common.{refl}
use Rattle.rng.specs.Rng.{next_u64_of}
use Rattle.rng.proofs.Rng.next_u64.Goals as goal

pub returns-clause-value : goal.returns-clause-value
unfolding next_u64_of
returns-clause-value c = refl

pub returns-clause-after : goal.returns-clause-after
unfolding next_u64_of
returns-clause-after c = refl
