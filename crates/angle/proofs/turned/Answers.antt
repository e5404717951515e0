-- `angle::turned` meets its contract. Assumes nothing.
use Rattle.angle.specs.Angles.{pick}
use Rattle.angle.proofs.turned.Goals as goal

pub returns-then-q : goal.returns-then-q
unfolding pick
returns-then-q c = (simp c.if-q.true, simp c.if-q.true)

pub returns-then-q-2 : goal.returns-then-q-2
unfolding pick
returns-then-q-2 c = (simp (c.if-q.false, c.if-q-2.true), simp (c.if-q.false, c.if-q-2.true))

pub returns-then-q-3 : goal.returns-then-q-3
unfolding pick
returns-then-q-3 c = (simp (c.if-q.false, c.if-q-2.false, c.if-q-3.true), simp (c.if-q.false, c.if-q-2.false, c.if-q-3.true))

pub returns : goal.returns
unfolding pick
returns c = (simp (c.if-q.false, c.if-q-2.false, c.if-q-3.false), simp (c.if-q.false, c.if-q-2.false, c.if-q-3.false))
