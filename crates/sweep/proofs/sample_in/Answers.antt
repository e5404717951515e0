-- `sample_in`: the sample that the order names.
use Rattle.sweep.proofs.Ways.{sample_is}
use Rattle.std.proofs.Common.{arith, refl}
use Rattle.sweep.proofs.sample_in.Goals as goal

pub overflow_add-at : goal.overflow_add-at
overflow_add-at c = omega (arith, c.order_w.ensures)

pub returns : goal.returns
returns c = sample_is c.args.k c.args.floats.now c.args.words.now c.args.i c.order_w.ensures refl c.at.ensures c.sample_at.ensures
