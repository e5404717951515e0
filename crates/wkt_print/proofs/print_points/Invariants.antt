-- `wkt_print::print_points` meets its contract. Assumes nothing.
use Rattle.wkt_print.proofs.Printing.{Left}
use Rattle.wkt_print.specs.Lines.{points_of, list_text}
use lib.ListN.{length}
use mathlib.Core.Path.{◌≡◌}
use Rattle.wkt_print.proofs.print_points.Given as goal

abbrev pub invariant-loop-p : goal.invariant-loop-p
invariant-loop-p l = Left l.initial.out l.at (list_text l.places (points_of l.pts)) l.out l.j (list_text l.places (points_of l.p-iterator.rest.now)) × (l.p-iterator.size ≡ 2) × (length l.out ≡ length l.initial.out)
