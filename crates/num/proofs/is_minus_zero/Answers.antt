-- `num::is_minus_zero` meets its contract. Assumes nothing.
use lib.Ieee.{of_bits}
use Rattle.num.proofs.CompareLaws.{minus_zero_yes, minus_zero_no}
use Rattle.num.proofs.is_minus_zero.Goals as goal

pub returns-then-x : goal.returns-then-x
unfolding of_bits
returns-then-x c = minus_zero_yes c.args.x c.if-x.true

pub returns : goal.returns
unfolding of_bits
returns c = minus_zero_no c.args.x c.if-x.false
