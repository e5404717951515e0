-- `num::long_remainder` meets its contract. Assumes nothing.
use Rattle.std.proofs.Common.{◌^◌, ◌*◌, ◌%◌, ◌∙◌, ap, sym, mul-one, mod-lt, arith}
use Rattle.num.proofs.RemBits.{digit_up}
use Rattle.num.proofs.long_remainder.Goals as goal

pub loop-init : goal.loop-init
loop-init c = ap (λ x. x % c.args.d) (sym (mul-one c.args.a))

pub overflow_mul-r : goal.overflow_mul-r
overflow_mul-r c = omega (arith, c.loop.invariant, mod-lt (c.args.a * 2 ^ c.loop.counter) c.requires.0, c.requires.1)

pub loop-preserved : goal.loop-preserved
loop-preserved c = ap (λ x. 2 * x % c.args.d) c.loop.invariant ∙ digit_up c.args.a c.loop.counter c.args.d
