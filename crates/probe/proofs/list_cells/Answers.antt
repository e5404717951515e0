-- `probe::list_cells` meets its contract. Assumes nothing.
use Rattle.probe.proofs.Walking.{begun, next, end_count, end_out, same_now}
use Rattle.walk.proofs.EnteredOnce.{left_few}
use Rattle.walk.proofs.StepLaws.{moves}
use mathlib.Core.Path.{refl, sym, ap, ◌∙◌}
use Rattle.probe.specs.Numbers.{low}
use native.Mathlib.Omega.{arith}
use Rattle.probe.proofs.list_cells.Goals as goal

pub loop-q-init : goal.loop-q-init
loop-q-init c = begun _ _ _ c.requires

pub overflow_add-n : goal.overflow_add-n
overflow_add-n c = omega (arith, c.loop-q.invariant.few, left_few c.args.k c.args.start c.requires)

pub loop-q-smaller : goal.loop-q-smaller
loop-q-smaller c = omega (arith, (moves _ _ _ (sym c.advance.ensures ∙ c.in-Some.is)).fewer)

pub loop-q-preserved : goal.loop-q-preserved
loop-q-preserved c = next _ _ _ _ _ _ _ _ _ c.loop-q.invariant c.put.ensures (c.low.ensures ∙ ap low c.cell_of.ensures) refl _ (sym c.advance.ensures ∙ c.in-Some.is)

pub shape_of-out-in-None : goal.shape_of-out-in-None
shape_of-out-in-None c = omega (arith, same_now _ _ _ _ _ _ _ _ _ c.loop-q.invariant c.put.ensures (c.low.ensures ∙ ap low c.cell_of.ensures) refl)

pub returns-in-None : goal.returns-in-None
returns-in-None c = record { value = end_count _ _ _ _ _ _ _ _ _ c.loop-q.invariant c.put.ensures (c.low.ensures ∙ ap low c.cell_of.ensures) refl (sym c.advance.ensures ∙ c.in-None.is); out_after = end_out _ _ _ _ _ _ _ _ _ c.loop-q.invariant c.put.ensures (c.low.ensures ∙ ap low c.cell_of.ensures) refl (sym c.advance.ensures ∙ c.in-None.is) }
