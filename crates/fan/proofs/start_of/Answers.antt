-- `fan::start_of`: the corner itself where the range holds it. Assumes nothing.
use Rattle.fan.specs.Sides.{start_of}
use Rattle.fan.proofs.start_of.Goals as goal

pub returns-then-t0 : goal.returns-then-t0
unfolding start_of
returns-then-t0 c = simp c.if-t0.true

pub returns : goal.returns
unfolding start_of
returns c = simp (c.if-t0.false, ← c.lerp.ensures)
