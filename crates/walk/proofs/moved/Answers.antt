-- `walk::moved` meets its contract. Assumes nothing.
use Rattle.std.proofs.Common.{lt-ltb, le-ltb}
use Rattle.walk.specs.Steps.{moved_to}
use Rattle.walk.proofs.moved.Goals as goal

pub returns-in-Up : goal.returns-in-Up
unfolding moved_to
returns-in-Up c = rw (c.in-Up.is, lt-ltb _ _ c.if-i-count.true)

pub returns-in-Down : goal.returns-in-Down
unfolding moved_to
returns-in-Down c = rw (c.in-Down.is, lt-ltb _ _ c.if-i-gt0.true)

pub returns-in_default : goal.returns-in_default
unfolding moved_to
returns-in_default c = rw (c.in-Up.is, le-ltb _ _ c.if-i-count.false)

pub returns-in_default-2 : goal.returns-in_default-2
unfolding moved_to
returns-in_default-2 c = rw (c.in-Down.is, le-ltb _ _ c.if-i-gt0.false)

pub returns-in-Stay : goal.returns-in-Stay
unfolding moved_to
returns-in-Stay c = rw c.in-Stay.is
