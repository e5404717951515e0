-- `fan::front`: facing away, out of range, or a front edge. Assumes nothing.
use Rattle.fan.specs.Sides.{front_of}
use Rattle.fan.proofs.front.Goals as goal

pub returns-then-facing : goal.returns-then-facing
unfolding front_of
returns-then-facing c = simp (← c.facing.ensures, c.if-facing.true)

pub returns-in-Some : goal.returns-in-Some
unfolding front_of
returns-in-Some c = simp (← c.facing.ensures, c.if-facing.false, ← c.in-Some.ensures, ← c.clipped.ensures)

pub returns-in-None : goal.returns-in-None
unfolding front_of
returns-in-None c = simp (← c.facing.ensures, c.if-facing.false, ← c.in-None.ensures)
