-- `held`: n is the count of the first i points. Assumes nothing.
use mathlib.Core.Path.{ap, ◌∙◌}
use native.Mathlib.Omega.{arith}
use Rattle.lists.specs.Lists.{sum_to}
use Rattle.exports_scene.specs.Many.{held_of}
use Rattle.exports_scene.proofs.Counting.{held_next, held_le}
use Rattle.exports_scene.proofs.inner.held.Goals as goal

pub overflow_add-n : goal.overflow_add-n
overflow_add-n c = omega (arith, held_le _ _ _ _ _ _ _ _ c.held_at-n.ensures)

pub loop-i-preserved : goal.loop-i-preserved
loop-i-preserved c = (held_next _ _ _ _ _ _ _ _ c.loop-i.invariant.0 c.held_at-n.ensures, omega (arith, held_le _ _ _ _ _ _ _ _ c.held_at-n.ensures))

pub returns : goal.returns
unfolding held_of
returns c = c.loop-i.invariant.0 ∙ ap (sum_to _) (omega arith)
