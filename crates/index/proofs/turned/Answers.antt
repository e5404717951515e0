-- `turned`: past the seam, and not. Assumes nothing.
use Rattle.index.proofs.turned.Goals as goal

pub returns-then-angle : goal.returns-then-angle
returns-then-angle c = rw c.if-angle.true

pub returns : goal.returns
returns c = rw c.if-angle.false
