-- `num::to_i64` meets its contract. Assumes nothing.
use Rattle.std.proofs.Common.{sym, ◌∙◌}
use lib.Ieee.{of_bits, neg}
use Rattle.num.proofs.Whole.{yes}
use Rattle.num.proofs.CompareLaws.{high_i64, nan_i64, low_i64}
use Rattle.num.proofs.to_i64.Goals as goal

pub truncating_f64_to_i64-requires : goal.truncating_f64_to_i64-requires
unfolding of_bits neg
truncating_f64_to_i64-requires c = record { lower_bound = yes c.if-x.true; upper_bound = yes c.if-x-2.true }

pub returns-then-x : goal.returns-then-x
unfolding of_bits neg
returns-then-x c = high_i64 c.args.x c.if-x.true c.if-x-2.false

pub returns-then-is_nan : goal.returns-then-is_nan
unfolding of_bits neg
returns-then-is_nan c = nan_i64 c.args.x (sym c.is_nan.ensures ∙ c.if-is_nan.true)

pub returns : goal.returns
unfolding of_bits neg
returns c = low_i64 c.args.x c.if-x.false (sym c.is_nan.ensures ∙ c.if-is_nan.false)
