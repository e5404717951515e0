-- `gather`: what is closed, and what the open event and the rest come to, are all the merged events. Assumes nothing.
use Rattle.std.proofs.Common.{refl}
use native.Mathlib.Omega.{arith}
use Rattle.events.proofs.Loop.{loop_first, loop_full, loop_aside, loop_join, can_close, loop_next, loop_end}
use Rattle.events.proofs.gather.Goals as goal
use Rattle.events.proofs.gather.Goals.{then-not-is_near, else-not-is_near+then-is_aside+else-k-g, else-not-is_near+else-is_aside}

pub loop-t-init : goal.loop-t-init
loop-t-init c = loop_first c.args.k c.args.floats.now c.args.words.now c.args.m c.requires c.turn_at.ensures c.begin-g.ensures

pub close-requires : goal.close-requires
close-requires c = can_close c.args.k c.args.floats.now c.args.words.now c.args.m c.requires c.loop-t.floats c.loop-t.words c.loop-t.g c.loop-t.t (omega arith) c.loop-t.invariant

pub returns-then-k-g : goal.returns-then-k-g
returns-then-k-g c = record { ends = loop_full c.args.k c.args.floats.now c.args.words.now c.args.m c.requires c.loop-t.floats c.loop-t.words c.loop-t.g c.loop-t.t (omega arith) c.loop-t.invariant (omega arith) c.turn_at-e.ensures c.is_near.ensures c.if-not-is_near.false c.is_aside.ensures c.if-is_aside.true c.if-k-g.true; frame = c.loop-t.invariant.frame }

pub loop-t-preserved : goal.loop-t-preserved
loop-t-preserved c =
    elim c.if-not-is_near.branch [
      | then-not-is_near w ↦ rw (w.floats-is, w.words-is, w.g-is) (loop_next c.args.k c.args.floats.now c.args.words.now c.args.m c.requires c.loop-t.floats c.loop-t.words c.loop-t.g c.loop-t.t (omega arith) c.loop-t.invariant (omega arith) c.turn_at-e.ensures c.is_near.ensures w.if-not-is_near.true w.close.ensures w.begin-g-then-not-is_near.ensures)
      | else-not-is_near+then-is_aside+else-k-g w ↦ rw (w.floats-is, w.words-is, w.g-is) (loop_aside c.args.k c.args.floats.now c.args.words.now c.args.m c.requires c.loop-t.floats c.loop-t.words c.loop-t.g c.loop-t.t (omega arith) c.loop-t.invariant (omega arith) c.turn_at-e.ensures c.is_near.ensures w.if-not-is_near.false w.is_aside.ensures w.if-is_aside.true w.if-k-g.false w.corners_w.ensures refl w.put.ensures w.join-g.ensures)
      | else-not-is_near+else-is_aside w ↦ rw (w.floats-is, w.words-is, w.g-is) (loop_join c.args.k c.args.floats.now c.args.words.now c.args.m c.requires c.loop-t.floats c.loop-t.words c.loop-t.g c.loop-t.t (omega arith) c.loop-t.invariant (omega arith) c.turn_at-e.ensures c.is_near.ensures w.if-not-is_near.false w.is_aside.ensures w.if-is_aside.false w.join-g-else-is_aside.ensures)
    ]

pub shape_of-floats : goal.shape_of-floats
shape_of-floats c = c.loop-t.invariant.frame.floats.long

pub shape_of-words : goal.shape_of-words
shape_of-words c = c.loop-t.invariant.frame.words.long

pub returns : goal.returns
returns c = record { ends = loop_end c.args.k c.args.floats.now c.args.words.now c.args.m c.requires c.loop-t.floats c.loop-t.words c.loop-t.g c.loop-t.t (omega arith) c.loop-t.invariant (omega arith); frame = c.loop-t.invariant.frame }
