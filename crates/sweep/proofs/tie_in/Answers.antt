-- `tie_in`: the tie of the sample that the order names.
use Rattle.sweep.proofs.Ways.{tie_is}
use Rattle.std.proofs.Common.{arith, refl}
use Rattle.sweep.proofs.tie_in.Goals as goal

pub overflow_add-at : goal.overflow_add-at
overflow_add-at c = omega (arith, c.order_w.ensures)

pub returns : goal.returns
returns c = tie_is c.args.k c.args.words.now c.args.i c.order_w.ensures refl c.at.ensures c.tie_at.ensures
