-- `num::from_bits` meets its contract. Assumes nothing.
use Rattle.num.proofs.BitLaws.{past_infinity, no_nan}
use lib.Ieee.{div, of_bits}
use Rattle.num.proofs.from_bits.Goals as goal

pub returns-then-b-gt9218868437227405312 : goal.returns-then-b-gt9218868437227405312
unfolding div of_bits
returns-then-b-gt9218868437227405312 c = past_infinity c.args.b c.if-b-gt9218868437227405312.true

pub float_from_bits-result : goal.float_from_bits-result
float_from_bits-result c = no_nan c.args.b c.if-b-gt9218868437227405312.false
