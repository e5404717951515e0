-- `num::max` meets its contract. Assumes nothing.
use Rattle.num.specs.Num.{max_of}
use Rattle.num.proofs.max.Goals as goal

pub returns-then-x-y : goal.returns-then-x-y
unfolding max_of
returns-then-x-y c = simp c.if-x-y.true

pub returns-then-is_nan : goal.returns-then-is_nan
unfolding max_of
returns-then-is_nan c = simp (c.if-x-y.false, ← c.is_nan.ensures, c.if-is_nan.true)

pub returns : goal.returns
unfolding max_of
returns c = simp (c.if-x-y.false, ← c.is_nan.ensures, c.if-is_nan.false)
