-- `look_along`: the cells counted and those left are all, and what is left of the walk ends as the whole does. Assumes nothing.
use Rattle.sight.proofs.Looking.{begun, turn_next, turn_stop, turn_end}
use Rattle.walk.proofs.EnteredOnce.{left_few}
use Rattle.walk.proofs.StepLaws.{moves}
use mathlib.Core.Path.{sym, ap, ◌∙◌}
use mathlib.Core.Bool.{not}
use native.Mathlib.Omega.{arith}
use Rattle.sight.proofs.look_along.Goals as goal

pub loop-s-init : goal.loop-s-init
loop-s-init c = begun _ _ _ _ c.requires

pub overflow_add-cells : goal.overflow_add-cells
overflow_add-cells c = omega (arith, c.well_formed, c.loop-s.invariant.few, left_few c.args.k c.args.start c.requires)

pub returns-then-not-s-exit_of : goal.returns-then-not-s-exit_of
returns-then-not-s-exit_of c = turn_stop _ _ _ _ _ c.args.tables.now.starts.now c.args.tables.now.items.now _ _ _ _ _ _ _ _ _ c.loop-s.invariant c.cell_of.ensures c.cell_items-ids.ensures c.test_items-s.ensures _ c.exit_of.ensures (ap not c.if-not-s-exit_of.true)

pub loop-s-smaller : goal.loop-s-smaller
loop-s-smaller c = omega (arith, (moves _ _ _ (sym c.advance.ensures ∙ c.in-Some.is)).fewer)

pub loop-s-preserved : goal.loop-s-preserved
loop-s-preserved c = turn_next _ _ _ _ _ c.args.tables.now.starts.now c.args.tables.now.items.now _ _ _ _ _ _ _ _ _ c.loop-s.invariant c.cell_of.ensures c.cell_items-ids.ensures c.test_items-s.ensures _ c.exit_of.ensures _ (ap not c.if-not-s-exit_of.false) (sym c.advance.ensures ∙ c.in-Some.is)

pub returns-in-None : goal.returns-in-None
returns-in-None c = turn_end _ _ _ _ _ c.args.tables.now.starts.now c.args.tables.now.items.now _ _ _ _ _ _ _ _ _ c.loop-s.invariant c.cell_of.ensures c.cell_items-ids.ensures c.test_items-s.ensures (sym c.advance.ensures ∙ c.in-None.is)
