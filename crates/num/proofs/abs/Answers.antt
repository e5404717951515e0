-- `num::abs` meets its contract. Assumes nothing.
use lib.Ieee.{of_bits}
use Rattle.num.proofs.Whole.{yes}
use Rattle.num.proofs.CompareLaws.{abs_below, abs_zero, abs_else}
use Rattle.num.proofs.abs.Goals as goal

pub returns-then-x : goal.returns-then-x
unfolding of_bits
returns-then-x c = abs_below c.args.x c.if-x.true

pub returns-then-x-2 : goal.returns-then-x-2
unfolding of_bits
returns-then-x-2 c = abs_zero c.args.x (yes c.well_formed.0.1) c.if-x-2.true

pub returns : goal.returns
unfolding of_bits
returns c = abs_else c.args.x c.if-x.false c.if-x-2.false
