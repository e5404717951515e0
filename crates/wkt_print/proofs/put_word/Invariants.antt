-- `wkt_print::put_word` meets its contract. Assumes nothing.
use Rattle.wkt_print.proofs.Printing.{Left}
use lib.ListN.{length, drop}
use Prim.Native.Nat.{◌+◌}
use mathlib.Core.Path.{◌≡◌}
use Rattle.wkt_print.proofs.put_word.Given as goal

abbrev pub invariant-loop-i : goal.invariant-loop-i
invariant-loop-i l = Left l.initial.out l.at l.word l.out (l.at + l.i) (drop l.i l.word) × (length l.out ≡ length l.initial.out)
