-- `print_answer`: what reading answers, and then the plan, printed (Ways). Assumes nothing.
use mathlib.Core.Path.{ap}
use Prim.Native.Nat.{◌≤◌}
use Rattle.wkt_print.proofs.Printing.{say}
use Rattle.wkt_print.specs.Lines.{refused_text}
use Rattle.planner.proofs.Ways.{points_few, polygons_few, tell, read_way, answer_refused}
use native.Mathlib.Omega.{arith}
use Rattle.planner.proofs.print_answer.Goals as goal

pub overflow_mul-input : goal.overflow_mul-input
overflow_mul-input c = omega (arith, points_few _ _ _ _ _ _ c.read_input.ensures _ c.in-Ok.is)

pub slice_bounds-print_plan-end : goal.slice_bounds-print_plan-end
slice_bounds-print_plan-end c = let f : c.in-Ok.input.points ≤ 512 = points_few _ _ _ _ _ _ c.read_input.ensures _ c.in-Ok.is in omega (arith, f, c.read_input.auto.pts)

pub slice_bounds-print_plan-end-in-Ok : goal.slice_bounds-print_plan-end-in-Ok
slice_bounds-print_plan-end-in-Ok c = let f : c.in-Ok.input.polygons ≤ 64 = polygons_few _ _ _ _ _ _ c.read_input.ensures _ c.in-Ok.is in omega (arith, f, c.read_input.auto.lens)

pub returns-in-Ok : goal.returns-in-Ok
returns-in-Ok c = tell (read_way _ _ _ _ _ _ c.read_input.ensures _ c.in-Ok.is _ (omega arith) (omega arith)) c.print_plan.ensures

pub returns-in-Err : goal.returns-in-Err
returns-in-Err c = answer_refused _ _ _ _ _ _ c.read_input.ensures _ _ c.in-Err.is (say (ap refused_text c.from.ensures) c.print_refused.ensures)
