-- `print_visible`: each line in turn; what is left of the lines, printed, ends as all of them. Assumes nothing.
use mathlib.Core.Path.{◌≡◌}
use lib.ListN.{length, drop}
use Rattle.wkt_print.proofs.Printing.{Left}
use Rattle.planner.specs.Answer.{lines_of}
use Rattle.planner.proofs.print_visible.Given as goal

abbrev pub invariant-loop-id : goal.invariant-loop-id
invariant-loop-id l = Left l.initial.out l.at (lines_of l.places l.points l.polygons l.ids) l.out l.j (lines_of l.places l.points l.polygons (drop l.id-index l.ids)) × (length l.out ≡ length l.initial.out)
