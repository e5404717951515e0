-- `fan::add_event`: the event is counted, and stands in the room where there is room. Assumes nothing.
use Rattle.fan.proofs.Adding.{event_written, event_counted}
use mathlib.Core.Path.{refl}
use Rattle.fan.proofs.add_event.Goals as goal
use Rattle.fan.proofs.add_event.Goals.{then-n-k, else-n-k}

pub put_event-requires : goal.put_event-requires
put_event-requires c = record { fit = c.requires.fit; below = c.if-n-k.true }

pub returns : goal.returns
returns c = elim c.if-n-k.branch [ then-n-k w ↦ rw (w.floats-is, w.words-is) (event_written _ _ _ _ _ _ refl refl refl refl _ _ w.if-n-k.true w.put_event.ensures) | else-n-k w ↦ rw (w.floats-is, w.words-is) (event_counted _ _ _ _ _ _ refl refl refl refl w.if-n-k.false) ]
