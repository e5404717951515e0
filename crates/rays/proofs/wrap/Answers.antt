-- `wrap`: before the seam, past it, or neither. Assumes nothing.
use Rattle.rays.specs.Samples.{wrap_of}
use Rattle.rays.proofs.wrap.Goals as goal

pub returns-then-angle : goal.returns-then-angle
unfolding wrap_of
returns-then-angle c = rw c.if-angle.true

pub returns-then-angle-2 : goal.returns-then-angle-2
unfolding wrap_of
returns-then-angle-2 c = rw (c.if-angle.false, c.if-angle-2.true)

pub returns : goal.returns
unfolding wrap_of
returns c = rw (c.if-angle.false, c.if-angle-2.false)
