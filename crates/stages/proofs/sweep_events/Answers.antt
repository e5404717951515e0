-- `sweep_events`: no event, a list that is over, or the outline. Assumes nothing.
use Rattle.stages.proofs.Casts.{noted_still}
use Rattle.stages.proofs.Showing.{events_none, events_over_lem, trace_eight, trace_seen}
use Rattle.stages.specs.Drawing.{request}
use lib.ListN.{length}
use native.Mathlib.Omega.{arith}
use Rattle.stages.proofs.sweep_events.Goals as goal

pub shape_of-outline-then-events-eq0 : goal.shape_of-outline-then-events-eq0
shape_of-outline-then-events-eq0 c = c.circle.auto.outline

pub returns-then-events-eq0 : goal.returns-then-events-eq0
returns-then-events-eq0 c = events_none (request c.args.k c.args.tables.now.points.now c.args.tables.now.polygons.now c.args.tables.now.owners.now c.args.cone c.args.tolerance c.args.mode (length c.args.outline.now) (length c.args.visible.now)) _ _ _ c.args.floats.now c.args.words.now c.if-events-eq0.true _ _ c.circle.ensures

pub cast_rays-requires : goal.cast_rays-requires
cast_rays-requires c = c.requires

pub overflow_cast-c : goal.overflow_cast-c
overflow_cast-c c = omega (arith, c.in-Some.ensures.few, c.well_formed.0)

pub trace-requires : goal.trace-requires
trace-requires c = (omega (arith, c.cast_rays.auto.words, c.requires.fit.words_fit), noted_still _ _ _ _ _ c.in-Some.c c.cast_rays.new.floats c.cast_rays.new.words c.in-Some.ensures c.args.tables.now.owners.now)

pub returns-in_default : goal.returns-in_default
returns-in_default c = events_over_lem (request c.args.k c.args.tables.now.points.now c.args.tables.now.polygons.now c.args.tables.now.owners.now c.args.cone c.args.tolerance c.args.mode (length c.args.outline.now) (length c.args.visible.now)) _ _ _ c.args.floats.now c.args.words.now c.requires c.if-events-eq0.false _ c.view_of-view.ensures _ _ c.in_default.ensures

pub returns-in_default-trace : goal.returns-in_default-trace
returns-in_default-trace c = trace_eight (request c.args.k c.args.tables.now.points.now c.args.tables.now.polygons.now c.args.tables.now.owners.now c.args.cone c.args.tolerance c.args.mode (length c.args.outline.now) (length c.args.visible.now)) _ _ _ c.args.floats.now c.args.words.now c.requires c.if-events-eq0.false _ c.view_of-view.ensures c.in-Some.c _ _ c.in-Some.ensures c.cast_rays.auto.words _ c.arc_step-step.ensures _ _ c.in_default-trace.ensures

pub returns : goal.returns
returns c = trace_seen (request c.args.k c.args.tables.now.points.now c.args.tables.now.polygons.now c.args.tables.now.owners.now c.args.cone c.args.tolerance c.args.mode (length c.args.outline.now) (length c.args.visible.now)) _ _ _ c.args.floats.now c.args.words.now c.requires c.if-events-eq0.false _ c.view_of-view.ensures c.in-Some.c _ _ c.in-Some.ensures c.cast_rays.auto.words _ c.arc_step-step.ensures _ _ c.in-Some-trace.t c.in-Some-trace.ensures
