-- `fan::stop_of`: the corner itself where the range holds it. Assumes nothing.
use Rattle.fan.specs.Sides.{stop_of}
use Rattle.fan.proofs.stop_of.Goals as goal

pub returns-then-t1 : goal.returns-then-t1
unfolding stop_of
returns-then-t1 c = simp c.if-t1.true

pub returns : goal.returns
unfolding stop_of
returns c = simp (c.if-t1.false, ← c.lerp.ensures)
