-- `geom::crosses` meets its contract. Assumes nothing.
use mathlib.Core.Bool.{xor}
use Rattle.geom.specs.Ring.{crosses}
use Rattle.geom.proofs.crosses.Goals as goal

pub returns-then-a-p : goal.returns-then-a-p
unfolding crosses xor
returns-then-a-p c = simp c.if-a-p.true

pub returns : goal.returns
unfolding crosses xor
returns c = simp c.if-a-p.false
