-- `emit`: the owner and the point of a hit, or the point of a miss.
use Rattle.sweep.specs.Sweep.{itself}
use Rattle.sweep.proofs.Ways.{emit_point, emit_hit, emit_miss, emitted_hit, emitted_miss}
use Rattle.std.proofs.Common.{arith}
use Rattle.sweep.proofs.emit.Goals as goal

pub own-t-requires : goal.own-t-requires
own-t-requires c = c.requires.1

pub push-requires : goal.push-requires
push-requires c = omega (arith, c.own-t.ensures.grown.points, c.requires.0)

pub push-requires-in-None : goal.push-requires-in-None
push-requires-in-None c = c.requires.0

pub shape_of-pts-in-Some : goal.shape_of-pts-in-Some
shape_of-pts-in-Some c = c.push.auto.pts

pub shape_of-marks : goal.shape_of-marks
shape_of-marks c = c.own-t.auto.marks

pub returns-in-Some : goal.returns-in-Some
returns-in-Some c = record { result_after = emit_hit c.args.view c.args.room c.args.owners.now itself c.args.a c.args.pts.now c.args.marks.now c.args.s (emit_point c.args.view c.args.a c.requires.2 c.point_along-p.ensures) c.in-Some.is c.own-t.ensures.result_after c.push.ensures.result_after; emitted = emitted_hit c.own-t.ensures.grown c.push.ensures.pushed }

pub shape_of-pts-in-None : goal.shape_of-pts-in-None
shape_of-pts-in-None c = c.push-in-None.auto.pts

pub returns-in-None : goal.returns-in-None
returns-in-None c = record { result_after = emit_miss c.args.view c.args.room c.args.owners.now itself c.args.a c.args.pts.now c.args.marks.now c.args.s (emit_point c.args.view c.args.a c.requires.2 c.point_along-p.ensures) c.in-None.is c.push-in-None.ensures.result_after; emitted = emitted_miss c.requires.1 c.push-in-None.ensures.pushed }
