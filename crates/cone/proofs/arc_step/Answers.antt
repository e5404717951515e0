-- `cone::arc_step` meets its contract: the test is the definition's. Assumes nothing.
use Rattle.cone.specs.Cone.{arc_step_of}
use Rattle.cone.proofs.arc_step.Goals as goal

pub returns-then-held-r : goal.returns-then-held-r
unfolding arc_step_of
returns-then-held-r c = simp (← c.max-held.ensures, c.if-held-r.true)

pub returns : goal.returns
unfolding arc_step_of
returns c = simp (c.clamp.ensures, c.acos.ensures, ← c.max-held.ensures, c.if-held-r.false)
