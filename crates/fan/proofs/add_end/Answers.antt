-- `fan::add_end`: the event of an end is added, where it is one. Assumes nothing.
use Rattle.fan.proofs.Adding.{added_none}
use Rattle.fan.proofs.add_end.Goals as goal

pub returns-in-Some : goal.returns-in-Some
returns-in-Some c = rw c.in-Some.is c.add_event.ensures

pub returns-in-None : goal.returns-in-None
returns-in-None c = rw c.in-None.is (added_none _ _ _)
