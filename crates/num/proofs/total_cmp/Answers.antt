-- `num::total_cmp` meets its contract. Assumes nothing.
use Rattle.num.proofs.CompareLaws.{pick, picked}
use Rattle.num.proofs.total_cmp.Goals as goal

pub returns-then-x-y : goal.returns-then-x-y
unfolding pick
returns-then-x-y c = rw (← picked _ _) (simp c.if-x-y.true)

pub returns-then-y-x : goal.returns-then-y-x
unfolding pick
returns-then-y-x c = rw (← picked _ _) (simp (c.if-x-y.false, c.if-y-x.true))

pub returns-then-is_minus_zero-2 : goal.returns-then-is_minus_zero-2
unfolding pick
returns-then-is_minus_zero-2 c = rw (← picked c.args.x c.args.y) (simp (c.if-x-y.false, c.if-y-x.false, c.if-x-y-2.true, ← c.is_minus_zero.ensures, ← c.is_minus_zero-then-is_minus_zero.ensures, c.if-is_minus_zero.true, c.if-is_minus_zero-2.true))

pub returns-then-is_minus_zero : goal.returns-then-is_minus_zero
unfolding pick
returns-then-is_minus_zero c = rw (← picked c.args.x c.args.y) (simp (c.if-x-y.false, c.if-y-x.false, c.if-x-y-2.true, ← c.is_minus_zero.ensures, ← c.is_minus_zero-then-is_minus_zero.ensures, c.if-is_minus_zero.true, c.if-is_minus_zero-2.false))

pub returns-then-is_minus_zero-3 : goal.returns-then-is_minus_zero-3
unfolding pick
returns-then-is_minus_zero-3 c = rw (← picked c.args.x c.args.y) (simp (c.if-x-y.false, c.if-y-x.false, c.if-x-y-2.true, ← c.is_minus_zero.ensures, ← c.is_minus_zero-then-x-y-2.ensures, c.if-is_minus_zero.false, c.if-is_minus_zero-3.true))

pub returns-then-x-y-2 : goal.returns-then-x-y-2
unfolding pick
returns-then-x-y-2 c = rw (← picked c.args.x c.args.y) (simp (c.if-x-y.false, c.if-y-x.false, c.if-x-y-2.true, ← c.is_minus_zero.ensures, ← c.is_minus_zero-then-x-y-2.ensures, c.if-is_minus_zero.false, c.if-is_minus_zero-3.false))

pub returns-then-is_nan-2 : goal.returns-then-is_nan-2
unfolding pick
returns-then-is_nan-2 c = rw (← picked c.args.x c.args.y) (simp (c.if-x-y.false, c.if-y-x.false, c.if-x-y-2.false, ← c.is_nan.ensures, ← c.is_nan-then-is_nan.ensures, c.if-is_nan.true, c.if-is_nan-2.true))

pub returns-then-is_nan : goal.returns-then-is_nan
unfolding pick
returns-then-is_nan c = rw (← picked c.args.x c.args.y) (simp (c.if-x-y.false, c.if-y-x.false, c.if-x-y-2.false, ← c.is_nan.ensures, ← c.is_nan-then-is_nan.ensures, c.if-is_nan.true, c.if-is_nan-2.false))

pub returns : goal.returns
unfolding pick
returns c = rw (← picked c.args.x c.args.y) (simp (c.if-x-y.false, c.if-y-x.false, c.if-x-y-2.false, ← c.is_nan.ensures, c.if-is_nan.false))
