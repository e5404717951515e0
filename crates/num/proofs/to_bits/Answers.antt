-- `num::to_bits` meets its contract. Assumes nothing.
use Rattle.num.proofs.BitLaws.{nan_pattern}
use Rattle.num.proofs.Whole.{nay}
use Rattle.std.proofs.Common.{sym, ◌∙◌}
use Rattle.num.proofs.to_bits.Goals as goal

pub returns-then-is_nan : goal.returns-then-is_nan
returns-then-is_nan c = nan_pattern c.args.x (sym c.is_nan.ensures ∙ c.if-is_nan.true)

pub float_to_bits-result : goal.float_to_bits-result
float_to_bits-result c = nay (sym c.is_nan.ensures ∙ c.if-is_nan.false)
