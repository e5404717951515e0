-- `hits`: n is the count of the first i rays. Assumes nothing.
use mathlib.Core.Path.{ap, ◌∙◌}
use native.Mathlib.Omega.{arith}
use Rattle.lists.specs.Lists.{sum_to}
use Rattle.exports_scene.specs.Many.{hits_of}
use Rattle.exports_scene.proofs.Counting.{hit_next, hit_le}
use Rattle.exports_scene.proofs.inner.hits.Goals as goal

pub overflow_add-n : goal.overflow_add-n
overflow_add-n c = omega (arith, hit_le _ _ _ _ _ _ _ _ c.hit_at-n.ensures)

pub loop-i-preserved : goal.loop-i-preserved
loop-i-preserved c = (hit_next _ _ _ _ _ _ _ _ c.loop-i.invariant.0 c.hit_at-n.ensures, omega (arith, hit_le _ _ _ _ _ _ _ _ c.hit_at-n.ensures))

pub returns : goal.returns
unfolding hits_of
returns c = c.loop-i.invariant.0 ∙ ap (sum_to _) (omega arith)
