-- `turn_at`: the event at the place that the order names. Assumes nothing.
use Rattle.std.proofs.Common.{refl}
use Rattle.events.proofs.Loop.{turn_is}
use Rattle.events.proofs.turn_at.Goals as goal

pub returns : goal.returns
returns c = turn_is c.args.k c.args.floats.now c.args.words.now c.args.t c.turns_w.ensures refl c.at.ensures c.event_at.ensures
