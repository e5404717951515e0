-- `print_plan`: what building answers, and then the outline, printed (Ways). Assumes nothing.
use mathlib.Core.Path.{ap, refl}
use lib.ListN.{replicate}
use Rattle.num.specs.Ops.{zero_f}
use Rattle.site.specs.Tables.{tables}
use Rattle.wkt_print.proofs.Printing.{say}
use Rattle.wkt_print.specs.Lines.{refused_text}
use Rattle.planner.specs.Rooms.{site_room}
use Rattle.planner.proofs.Ways.{tell, built_way, plan_refused}
use borrow.Author.Rules.{rules}
use Rattle.planner.proofs.print_plan.Goals as goal

pub print_view-requires : goal.print_view-requires
print_view-requires c = (search rules, c.requires)

pub returns-in-Ok : goal.returns-in-Ok
unfolding site_room
returns-in-Ok c = tell (built_way c.args.places c.args.x c.args.y c.args.range c.args.given.now c.args.lens.now (tables (replicate 1024 zero_f) (replicate 256 zero_f) (replicate 128 0) (replicate 512 0) (replicate 2049 0) (replicate 4096 0)) refl _ _ _ c.new.ensures c.in-Ok.is) c.print_view.ensures

pub returns-in-Err : goal.returns-in-Err
unfolding site_room
returns-in-Err c = plan_refused c.args.places c.args.x c.args.y c.args.range c.args.given.now c.args.lens.now (tables (replicate 1024 zero_f) (replicate 256 zero_f) (replicate 128 0) (replicate 512 0) (replicate 2049 0) (replicate 4096 0)) refl _ _ _ c.new.ensures c.in-Err.is (say (ap refused_text c.from.ensures) c.print_refused.ensures)
