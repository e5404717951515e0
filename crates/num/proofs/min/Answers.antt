-- `num::min` meets its contract. Assumes nothing.
use Rattle.num.specs.Num.{min_of}
use Rattle.num.proofs.min.Goals as goal

pub returns-then-y-x : goal.returns-then-y-x
unfolding min_of
returns-then-y-x c = simp c.if-y-x.true

pub returns-then-is_nan : goal.returns-then-is_nan
unfolding min_of
returns-then-is_nan c = simp (c.if-y-x.false, ← c.is_nan.ensures, c.if-is_nan.true)

pub returns : goal.returns
unfolding min_of
returns c = simp (c.if-y-x.false, ← c.is_nan.ensures, c.if-is_nan.false)
