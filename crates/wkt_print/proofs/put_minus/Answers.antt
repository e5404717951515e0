-- `wkt_print::put_minus` meets its contract. Assumes nothing.
use Rattle.wkt_print.proofs.Printing.{say, byte, nothing}
use Rattle.wkt.specs.Words.{minus_if}
use mathlib.Core.Path.{refl, sym, ap}
use Rattle.wkt_print.proofs.put_minus.Goals as goal

pub returns-then-minus : goal.returns-then-minus
returns-then-minus c = say (ap minus_if (sym c.if-minus.true)) (byte c.args.out.now c.args.at 45 _ _ c.put.ensures refl)

pub returns : goal.returns
returns c = say (ap minus_if (sym c.if-minus.false)) (nothing _ _)
