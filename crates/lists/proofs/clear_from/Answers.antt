-- `lists::clear_from` meets its contract. The invariant, its turns and its end are laws over the zero.
-- Assumes nothing.
use Rattle.std.proofs.Common.{arith}
use Rattle.lists.proofs.Zeros.{clear_none, clear_more, clear_all}
use Rattle.lists.proofs.clear_from.Goals as goal

pub loop-i-init : goal.loop-i-init
loop-i-init g c = clear_none g.T.Entry.zero c.args.s.now c.args.n

pub loop-i-preserved : goal.loop-i-preserved
loop-i-preserved g c = rw c.zero.ensures (clear_more g.T.Entry.zero c.args.s.now c.args.n c.loop-i.s c.loop-i.i c.loop-i.invariant (omega (arith, c.loop-i.invariant.long)))

pub returns : goal.returns
returns g c = clear_all g.T.Entry.zero c.args.s.now c.args.n c.loop-i.s c.loop-i.i c.loop-i.invariant (omega (arith, c.loop-i.invariant.long))
