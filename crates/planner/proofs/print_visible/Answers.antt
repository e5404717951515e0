-- `print_visible`: each line in turn; what is left of the lines, printed, ends as all of them. Assumes nothing.
use mathlib.Core.Path.{refl, ◌∙◌}
use Prim.Native.Nat.{◌+◌}
use lib.ListN.{drop}
use Rattle.wkt_print.proofs.Printing.{left_start, left_more, left_done, left_place}
use Rattle.planner.specs.Answer.{lines_of}
use Rattle.planner.proofs.Lines.{lines_next, lines_end, lines_room}
use native.Mathlib.Omega.{arith}
use Rattle.planner.proofs.print_visible.Goals as goal

pub loop-id-init : goal.loop-id-init
loop-id-init c = (left_start _ _ _, refl)

pub print_stored-j-requires : goal.print_stored-j-requires
print_stored-j-requires c = (c.requires.points_few, omega (arith, left_place c.loop-id.invariant.0, lines_room c.args.places c.args.points.now c.args.polygons.now c.requires.points_few c.args.ids.now c.requires.ids_few, c.requires.at_few, c.requires.places_few), c.requires.places_few)

pub loop-id-preserved : goal.loop-id-preserved
loop-id-preserved c = (left_more c.loop-id.invariant.0 (lines_of c.args.places c.args.points.now c.args.polygons.now (drop (c.loop-id.id-index + 1) c.args.ids.now)) (lines_next c.args.places c.args.points.now c.args.polygons.now c.args.ids.now c.loop-id.id-index (omega arith)) c.print_stored-j.ensures, c.print_stored-j.auto.out ∙ c.loop-id.invariant.1)

pub returns : goal.returns
returns c = left_done c.loop-id.invariant.0 (lines_end c.args.places c.args.points.now c.args.polygons.now c.args.ids.now c.loop-id.id-index (omega arith))
