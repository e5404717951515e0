-- `staged`: over, blocked, or what the events come to. Assumes nothing.
use Rattle.stages.proofs.Showing.{staged_over, staged_touch, staged_done}
use Rattle.stages.specs.Drawing.{request}
use lib.ListN.{length}
use Rattle.stages.proofs.staged.Goals as goal

pub gather-g-requires : goal.gather-g-requires
gather-g-requires c = c.requires

pub returns-in-Over : goal.returns-in-Over
returns-in-Over c = staged_over (request c.args.k c.args.tables.now.points.now c.args.tables.now.polygons.now c.args.tables.now.owners.now c.args.cone c.args.tolerance c.args.mode (length c.args.outline.now) (length c.args.visible.now)) _ _ _ c.view_of-view.ensures _ _ _ _ c.in-Over.ensures

pub returns-in-Touching : goal.returns-in-Touching
returns-in-Touching c = staged_touch (request c.args.k c.args.tables.now.points.now c.args.tables.now.polygons.now c.args.tables.now.owners.now c.args.cone c.args.tolerance c.args.mode (length c.args.outline.now) (length c.args.visible.now)) _ _ _ c.view_of-view.ensures _ _ _ _ c.in-Touching.ensures c.plain.ensures

pub sweep_events-requires : goal.sweep_events-requires
sweep_events-requires c = c.in-Found.ensures.kept.stand

pub returns-in-Found : goal.returns-in-Found
returns-in-Found c = staged_done (request c.args.k c.args.tables.now.points.now c.args.tables.now.polygons.now c.args.tables.now.owners.now c.args.cone c.args.tolerance c.args.mode (length c.args.outline.now) (length c.args.visible.now)) _ _ _ c.view_of-view.ensures _ _ _ _ c.in-Found.ensures c.sweep_events.ensures
