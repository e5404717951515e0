-- `fan::end_of`: the event of an end, by whether it is a corner. Assumes nothing.
use Rattle.fan.specs.Sides.{end_of}
use Rattle.fan.proofs.end_of.Goals as goal

pub returns-then-not-held : goal.returns-then-not-held
unfolding end_of
returns-then-not-held c = simp c.if-not-held.true

pub returns-then-corner : goal.returns-then-corner
unfolding end_of
returns-then-corner c = simp (c.if-not-held.false, c.if-corner.true)

pub returns-else-corner : goal.returns-else-corner
unfolding end_of
returns-else-corner c = simp (c.if-not-held.false, c.if-corner.false)
