-- `num::clamp` meets its contract. Assumes nothing.
use Rattle.num.specs.Num.{clamp_of}
use Rattle.num.proofs.clamp.Goals as goal

pub returns-then-x-lo : goal.returns-then-x-lo
unfolding clamp_of
returns-then-x-lo c = simp c.if-x-lo.true

pub returns-then-x-hi : goal.returns-then-x-hi
unfolding clamp_of
returns-then-x-hi c = simp (c.if-x-lo.false, c.if-x-hi.true)

pub returns : goal.returns
unfolding clamp_of
returns c = simp (c.if-x-lo.false, c.if-x-hi.false)
