-- `rng::Rng::range` meets its contract. Assumes nothing.
use Rattle.std.proofs.Common.{arith, le-leb}
use borrow.Author.Tests.{lt-leb}
use Rattle.rng.specs.Rng.{next_u64_of, range_of}
use Rattle.rng.proofs.Rng.range.Goals as goal

pub returns-then-hi-lo-clause-value : goal.returns-then-hi-lo-clause-value
unfolding range_of
returns-then-hi-lo-clause-value c = rw (le-leb c.args.hi c.args.lo (omega arith))

pub returns-then-hi-lo-clause-after : goal.returns-then-hi-lo-clause-after
unfolding range_of
returns-then-hi-lo-clause-after c = rw (le-leb c.args.hi c.args.lo (omega arith))

pub returns-clause-value : goal.returns-clause-value
unfolding next_u64_of range_of
returns-clause-value c = rw (lt-leb c.args.hi c.args.lo c.if-hi-lo.false, c.mul_high.ensures, c.next_u64.ensures.value)

pub returns-clause-after : goal.returns-clause-after
unfolding next_u64_of range_of
returns-clause-after c = rw (lt-leb c.args.hi c.args.lo c.if-hi-lo.false) c.next_u64.ensures.after
