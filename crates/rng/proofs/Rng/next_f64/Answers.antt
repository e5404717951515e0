-- `rng::Rng::next_f64` meets its contract. Assumes nothing.
use Rattle.rng.specs.Rng.{next_u64_of, next_f64_of}
use Rattle.rng.proofs.Rng.next_f64.Goals as goal

pub returns-clause-value : goal.returns-clause-value
unfolding next_u64_of next_f64_of
returns-clause-value c = rw c.next_u64.ensures.value

pub returns-clause-after : goal.returns-clause-after
unfolding next_u64_of next_f64_of
returns-clause-after c = c.next_u64.ensures.after
