-- `num::to_u64` meets its contract. Assumes nothing.
use lib.Ieee.{of_bits, neg}
use Rattle.num.proofs.Whole.{yes}
use Rattle.num.proofs.CompareLaws.{high_u64, low_u64}
use Rattle.num.proofs.to_u64.Goals as goal

pub truncating_f64_to_u64-requires : goal.truncating_f64_to_u64-requires
unfolding of_bits neg
truncating_f64_to_u64-requires c = record { lower_bound = yes c.if-x.true; upper_bound = yes c.if-x-2.true }

pub returns-then-x : goal.returns-then-x
unfolding of_bits neg
returns-then-x c = high_u64 c.args.x c.if-x.true c.if-x-2.false

pub returns : goal.returns
unfolding of_bits neg
returns c = low_u64 c.args.x c.if-x.false
