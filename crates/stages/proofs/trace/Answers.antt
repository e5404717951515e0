-- `trace`: the run, and the marked polygons listed. Assumes nothing.
use Rattle.stages.proofs.Showing.{run_from, trace_over, trace_done}
use Rattle.credit.specs.Credit.{no_marks}
use native.Mathlib.Omega.{arith}
use mathlib.Core.Path.{refl, ◌∙◌}
use mathlib.Core.Logic.{inl, inr}
use Rattle.stages.proofs.trace.Goals as goal
use Rattle.stages.proofs.trace.Goals.{then-t-via-then-t, then-t-via-else-t+then-visible-ids}

pub sweep-t-requires : goal.sweep-t-requires
sweep-t-requires c = c.requires

pub returns-then-t : goal.returns-then-t
unfolding no_marks
returns-then-t c =
    trace_over _ _ _ _ _ _ _ (run_from _ _ _ c.sweep-t.ensures.result_after c.clear.ensures refl) (omega (arith, c.sweep-t.ensures.swept.0.points, c.sweep-t.auto.pts)) c.list_marked-ids.ensures.0 c.list_marked-ids.ensures.1
    (elim c.then-t.branch [ then-t-via-then-t w ↦ inl w.if-t.true | then-t-via-else-t+then-visible-ids w ↦ inr (omega (arith, w.if-visible-ids.true, c.list_marked-ids.auto.out)) ])

pub shape_of-words : goal.shape_of-words
shape_of-words c = c.sweep-t.auto.words

pub shape_of-outline : goal.shape_of-outline
shape_of-outline c = c.sweep-t.auto.pts ∙ c.clear.auto.s

pub shape_of-visible : goal.shape_of-visible
shape_of-visible c = c.list_marked-ids.auto.out

pub returns : goal.returns
unfolding no_marks
returns c = trace_done _ _ _ _ _ _ _ (run_from _ _ _ c.sweep-t.ensures.result_after c.clear.ensures refl) (omega (arith, c.sweep-t.ensures.swept.0.points, c.sweep-t.auto.pts)) c.list_marked-ids.ensures.0 c.list_marked-ids.ensures.1 c.if-t.false (omega (arith, c.if-visible-ids.false, c.list_marked-ids.auto.out))
