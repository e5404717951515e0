-- `wkt_print::put_digits`: the digits from the last one on. Assumes nothing.
use mathlib.Core.Path.{◌≡◌}
use lib.ListN.{length}
use Rattle.wkt_print.proofs.Printing.{Behind}
use Rattle.wkt_print.proofs.put_digits.Given as goal

abbrev pub invariant-loop-j : goal.invariant-loop-j
invariant-loop-j l = Behind l.initial.out l.at l.k l.n l.out l.m l.j × (length l.out ≡ length l.initial.out)
