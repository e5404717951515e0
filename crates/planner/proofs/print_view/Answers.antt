-- `print_view`: what the call of an outline answers, printed (Ways). Assumes nothing.
use mathlib.Core.Path.{ap, refl}
use native.Mathlib.Omega.{arith}
use lib.ListN.{replicate}
use Rattle.num.specs.Ops.{zero_f}
use Rattle.site.specs.Tables.{tables_of}
use Rattle.view.specs.Outcome.{lent}
use Rattle.wkt_print.proofs.Printing.{say}
use Rattle.wkt_print.specs.Lines.{refused_text}
use Rattle.planner.specs.Rooms.{work_room}
use Rattle.planner.proofs.Ways.{view_seen, view_refused}
use Rattle.planner.proofs.print_view.Goals as goal

pub print_seen-requires : goal.print_seen-requires
print_seen-requires c = (c.requires.0, omega arith, omega arith, c.requires.1)

pub returns-in-Ok : goal.returns-in-Ok
unfolding work_room
returns-in-Ok c = view_seen c.args.places c.args.scene.site (tables_of c.args.scene.tables) c.args.x c.args.y c.args.range _ _ (lent (replicate 64 0) 0 (replicate 3456 zero_f) (replicate 6881 0) (replicate 4096 zero_f) (replicate 64 0)) c.full-cone.ensures c.rooms.ensures refl _ _ _ c.compute_visibility.ensures c.in-Ok.is c.requires.0 (omega arith) (omega arith) c.print_seen.ensures

pub returns-in-Err : goal.returns-in-Err
unfolding work_room
returns-in-Err c = view_refused c.args.places c.args.scene.site (tables_of c.args.scene.tables) c.args.x c.args.y c.args.range _ _ (lent (replicate 64 0) 0 (replicate 3456 zero_f) (replicate 6881 0) (replicate 4096 zero_f) (replicate 64 0)) c.full-cone.ensures c.rooms.ensures refl _ _ _ c.compute_visibility.ensures c.in-Err.is (say (ap refused_text c.from.ensures) c.print_refused.ensures)
