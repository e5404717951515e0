-- `cone::with_axis` meets its contract: the test is the definition's. Assumes nothing.
use Rattle.cone.specs.Cone.{with_axis}
use Rattle.cone.proofs.with_axis.Goals as goal

pub returns-then-normalize_angle-v : goal.returns-then-normalize_angle-v
unfolding with_axis
returns-then-normalize_angle-v c = simp (c.include.ensures, c.rim.ensures, ← c.normalize_angle.ensures, c.if-normalize_angle-v.true)

pub returns : goal.returns
unfolding with_axis
returns c = simp (← c.normalize_angle.ensures, c.if-normalize_angle-v.false)
