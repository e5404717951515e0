-- `wkt_print::put_whole` meets its contract. Assumes nothing.
use Rattle.wkt_print.proofs.Printing.{say}
use Rattle.wkt_print.specs.Decimal.{fixed}
use Prim.Native.Nat.{ℕ}
use mathlib.Core.Path.{ap}
use Rattle.wkt_print.proofs.put_whole.Goals as goal

pub returns : goal.returns
returns c = say (ap (λ (w : ℕ). fixed w c.args.n) c.width_of.ensures.0) c.put_digits.ensures
