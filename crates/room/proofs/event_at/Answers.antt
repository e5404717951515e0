-- `room::event_at` meets its contract: it reads the numbers of one event. Assumes nothing.
use Rattle.room.specs.Records.{event_at}
use Rattle.room.proofs.event_at.Goals as goal

pub returns : goal.returns
unfolding event_at
returns c = simp (c.at-3.ensures, c.at-2.ensures, c.at.ensures, c.events_f.ensures, c.events_w.ensures)
