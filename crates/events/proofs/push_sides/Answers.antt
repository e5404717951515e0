-- `push_sides`: two events more, and nothing else written. Assumes nothing.
use native.Mathlib.Omega.{arith}
use Rattle.lists.proofs.Only.{only_trans}
use Rattle.events.proofs.Sides.{two_more}
use Rattle.events.proofs.push_sides.Goals as goal

pub returns : goal.returns
returns c = record { n_after = two_more _ _ _ c.args.n c.args.k.events _ _ (omega arith) c.put_event.ensures.entry c.put_event-2.ensures.entry; only = (only_trans c.put_event.ensures.floats c.put_event-2.ensures.floats, only_trans c.put_event.ensures.words c.put_event-2.ensures.words) }
