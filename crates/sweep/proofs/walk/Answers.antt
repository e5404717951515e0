-- `walk`: the samples from i on are left to walk.
use Rattle.std.proofs.Common.{arith}
use Rattle.sweep.proofs.Walking.{walk_none, walk_ready, walk_noted, walk_more, walk_end, walk_swept}
use Rattle.sweep.proofs.walk.Goals as goal

pub loop-i-init : goal.loop-i-init
loop-i-init c = walk_none c.args.k c.args.x c.args.floats.now c.args.view c.args.step c.args.tables.now.points.now c.args.tables.now.polygons.now c.args.tables.now.owners.now c.args.n c.args.words.now c.args.pts.now c.args.marks.now c.args.s c.requires.0

pub visit-r-requires : goal.visit-r-requires
visit-r-requires c = (c.loop-i-test.true, omega (arith, c.loop-i.invariant.only.long, c.requires.0.long), walk_ready c.args.k c.args.x c.args.floats.now c.args.view c.args.step c.args.tables.now.points.now c.args.tables.now.polygons.now c.args.tables.now.owners.now c.args.n c.args.words.now c.args.pts.now c.args.marks.now c.args.s c.loop-i.words c.loop-i.pts c.loop-i.marks c.loop-i.t c.loop-i.i c.loop-i.invariant c.loop-i-test.true (omega (arith, c.ranges)) (omega (arith, c.well_formed)), walk_noted c.args.k c.args.x c.args.floats.now c.args.view c.args.step c.args.tables.now.points.now c.args.tables.now.polygons.now c.args.tables.now.owners.now c.args.n c.args.words.now c.args.pts.now c.args.marks.now c.args.s c.loop-i.words c.loop-i.pts c.loop-i.marks c.loop-i.t c.loop-i.i c.loop-i.invariant c.requires.1)

pub loop-i-preserved : goal.loop-i-preserved
loop-i-preserved c = walk_more c.args.k c.args.x c.args.floats.now c.args.view c.args.step c.args.tables.now.points.now c.args.tables.now.polygons.now c.args.tables.now.owners.now c.args.n c.args.words.now c.args.pts.now c.args.marks.now c.args.s c.loop-i.words c.loop-i.pts c.loop-i.marks c.loop-i.t c.loop-i.i c.loop-i.invariant c.loop-i-test.true _ _ _ _ c.visit-r.ensures.result_after c.visit-r.ensures.done c.visit-r.auto.pts c.visit-r.auto.marks

pub shape_of-words : goal.shape_of-words
shape_of-words c = c.loop-i.invariant.only.long

pub shape_of-pts : goal.shape_of-pts
shape_of-pts c = c.loop-i.invariant.long

pub shape_of-marks : goal.shape_of-marks
shape_of-marks c = c.loop-i.invariant.held

pub returns : goal.returns
returns c = record { result_after = walk_end c.args.k c.args.x c.args.floats.now c.args.view c.args.step c.args.tables.now.points.now c.args.tables.now.polygons.now c.args.tables.now.owners.now c.args.n c.args.words.now c.args.pts.now c.args.marks.now c.args.s c.loop-i.words c.loop-i.pts c.loop-i.marks c.loop-i.t c.loop-i.i c.loop-i.invariant c.loop-i-test.false; swept = (walk_swept c.args.k c.args.x c.args.floats.now c.args.view c.args.step c.args.tables.now.points.now c.args.tables.now.polygons.now c.args.tables.now.owners.now c.args.n c.args.words.now c.args.pts.now c.args.marks.now c.args.s c.loop-i.words c.loop-i.pts c.loop-i.marks c.loop-i.t c.loop-i.i c.loop-i.invariant (omega arith), c.loop-i.invariant.only) }
