-- `next_of`: the next one, the first a turn later, or none.
use Rattle.sweep.proofs.Ways.{next_more, next_turn, next_last}
use Rattle.sweep.proofs.next_of.Goals as goal

pub returns-then-i-n : goal.returns-then-i-n
returns-then-i-n c = next_more _ _ _ _ c.if-i-n.true c.sample_in.ensures

pub returns-then-view : goal.returns-then-view
returns-then-view c = next_turn _ _ _ _ c.if-i-n.false c.if-view.true c.sample_in-first.ensures

pub returns : goal.returns
returns c = next_last _ _ _ _ c.if-i-n.false c.if-view.false
