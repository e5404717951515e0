-- `drawn`: by the room, the plan and the query. Assumes nothing.
use Rattle.view.proofs.Draws.{draw_short, draw_empty, draw_inside, draw_refused, draw_listed}
use Rattle.stages.specs.Drawing.{request}
use lib.ListN.{length}
use Rattle.view.proofs.drawn.Goals as goal

pub returns-then-short : goal.returns-then-short
returns-then-short c = draw_short _ _ (request c.args.k c.args.tables.now.points.now c.args.tables.now.polygons.now c.args.tables.now.owners.now c.args.cone c.args.tolerance c.args.mode (length c.args.outline.now) (length c.args.visible.now)) _ _ c.args.words.now _ _ c.if-short.true

pub staged-requires : goal.staged-requires
staged-requires c = c.requires c.if-short.false _ _ c.in-Ok.is

pub returns-in-Empty : goal.returns-in-Empty
returns-in-Empty c = draw_empty _ _ (request c.args.k c.args.tables.now.points.now c.args.tables.now.polygons.now c.args.tables.now.owners.now c.args.cone c.args.tolerance c.args.mode (length c.args.outline.now) (length c.args.visible.now)) _ _ c.args.words.now _ _ c.if-short.false c.in-Empty.is c.is_full.ensures c.plain.ensures

pub returns-in-Inside : goal.returns-in-Inside
returns-in-Inside c = draw_inside _ _ (request c.args.k c.args.tables.now.points.now c.args.tables.now.polygons.now c.args.tables.now.owners.now c.args.cone c.args.tolerance c.args.mode (length c.args.outline.now) (length c.args.visible.now)) _ _ c.args.words.now _ _ c.if-short.false c.in-Inside.is c.is_full-in-Inside.ensures c.plain-in-Inside.ensures

pub returns-in-Err : goal.returns-in-Err
returns-in-Err c = draw_refused _ _ (request c.args.k c.args.tables.now.points.now c.args.tables.now.polygons.now c.args.tables.now.owners.now c.args.cone c.args.tolerance c.args.mode (length c.args.outline.now) (length c.args.visible.now)) _ _ c.args.words.now _ _ c.if-short.false c.in-Query.is c.in-Err.is

pub shape_of-floats : goal.shape_of-floats
shape_of-floats c = c.staged.auto.floats

pub shape_of-words : goal.shape_of-words
shape_of-words c = c.staged.auto.words

pub shape_of-outline : goal.shape_of-outline
shape_of-outline c = c.staged.auto.outline

pub shape_of-visible : goal.shape_of-visible
shape_of-visible c = c.staged.auto.visible

pub returns-in-Ok : goal.returns-in-Ok
returns-in-Ok c = draw_listed _ _ (request c.args.k c.args.tables.now.points.now c.args.tables.now.polygons.now c.args.tables.now.owners.now c.args.cone c.args.tolerance c.args.mode (length c.args.outline.now) (length c.args.visible.now)) _ _ c.args.words.now _ _ c.if-short.false c.in-Query.is c.in-Ok.is c.staged.ensures
