-- `arc`: the points from i on are left.
use Rattle.std.proofs.Common.{arith}
use Rattle.sweep.proofs.Ways.{arc_none, arc_more, arc_end}
use Rattle.sweep.proofs.arc.Goals as goal

pub loop-i-init : goal.loop-i-init
loop-i-init c = arc_none c.args.view c.args.angle c.args.gap c.args.steps c.args.pts.now c.args.s c.requires

pub push-t-requires : goal.push-t-requires
push-t-requires c = omega (arith, c.loop-i.invariant.counts.within, c.loop-i.invariant.long)

pub loop-i-preserved : goal.loop-i-preserved
loop-i-preserved c = arc_more c.args.view c.args.angle c.args.gap c.args.steps c.args.pts.now c.args.s c.loop-i.pts c.loop-i.t c.loop-i.i c.loop-i.invariant c.loop-i-test.true _ _ c.arc_point.ensures c.push-t.ensures.result_after c.push-t.auto.pts c.push-t.ensures.pushed

pub shape_of-pts : goal.shape_of-pts
shape_of-pts c = c.loop-i.invariant.long

pub returns : goal.returns
returns c = record { result_after = arc_end c.args.view c.args.angle c.args.gap c.args.steps c.args.pts.now c.args.s c.loop-i.pts c.loop-i.t c.loop-i.i c.loop-i.invariant c.loop-i-test.false; pushed = c.loop-i.invariant.counts }
