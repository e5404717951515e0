-- `sample_events`: the samples of the events before i. Assumes nothing.
use Rattle.rays.proofs.Emitting.{before_none, before_room, before_more, before_all}
use native.Mathlib.Omega.{arith}
use Rattle.rays.proofs.sample_events.Goals as goal

pub loop-i-init : goal.loop-i-init
loop-i-init c = before_none c.args.k c.args.view c.args.events c.args.floats.now c.args.words.now c.requires

pub event_rays-n-requires : goal.event_rays-n-requires
event_rays-n-requires c = before_room c.args.k c.args.view c.args.events c.args.floats.now c.args.words.now c.requires c.loop-i.floats c.loop-i.words c.loop-i.n c.loop-i.i c.loop-i.invariant (omega (arith, c.ranges)) (omega arith)

pub loop-i-preserved : goal.loop-i-preserved
loop-i-preserved c = before_more c.args.k c.args.view c.args.events c.args.floats.now c.args.words.now c.requires c.loop-i.floats c.loop-i.words c.loop-i.n c.loop-i.i c.loop-i.invariant (omega arith) c.event_rays-n.new.floats c.event_rays-n.new.words c.event_rays-n.result c.event_rays-n.ensures

pub returns : goal.returns
returns c = before_all c.args.k c.args.view c.args.events c.args.floats.now c.args.words.now c.requires c.loop-i.floats c.loop-i.words c.loop-i.n c.loop-i.i c.loop-i.invariant (omega arith)
