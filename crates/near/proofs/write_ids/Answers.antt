-- `near::write_ids` meets its contract. Assumes nothing.
use lib.ListN.{take, length-take}
use Rattle.near.proofs.Answering.{write_next}
use Rattle.near.proofs.Ways.{write_none, write_done}
use native.Mathlib.Omega.{arith}
use Rattle.near.proofs.write_ids.Goals as goal

pub loop-i-init : goal.loop-i-init
loop-i-init c = write_none (take c.args.n c.args.keys.now) c.args.ids.now

pub loop-i-preserved : goal.loop-i-preserved
loop-i-preserved c = write_next (take c.args.n c.args.keys.now) c.loop-i.ids c.loop-i.i c.loop-i-test.true (omega (arith, length-take c.args.n c.args.keys.now)) c.loop-i.invariant

pub returns : goal.returns
returns c = write_done c.args.keys.now c.loop-i.ids c.loop-i.i c.args.n (omega (arith, length-take c.args.n c.args.keys.now)) c.loop-i.invariant
