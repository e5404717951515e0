-- `new`: a refusal leaves every table as it was; otherwise the site stands in them, with zeros behind (Making). Assumes nothing.
use mathlib.Core.Path.{sym, ◌∙◌}
use lib.ListN.{length}
use Rattle.site.specs.Tables.{tables}
use Rattle.build.specs.Outcome.{rooms_of}
use Rattle.build.proofs.Making.{layable, indexable, refused_way, made_way}
use Rattle.build.proofs.Deciding.{going}
use Rattle.std.proofs.lemmas.Result.{err_from_is_err_and}
use Rattle.build.proofs.new.Goals as goal

pub lay_out-requires : goal.lay_out-requires
lay_out-requires c =
    let lent = tables c.args.points.now c.args.boxes.now c.args.polygons.now c.args.owners.now c.args.starts.now c.args.items.now in
    layable c.args.width c.args.height c.args.given.now c.args.lens.now (rooms_of lent) _ (going c.args.width c.args.height c.args.given.now c.args.lens.now (rooms_of lent) _ (sym c.decide.ensures ∙ c.in_ok-site.was))

pub index-requires : goal.index-requires
index-requires c =
    let lent = tables c.args.points.now c.args.boxes.now c.args.polygons.now c.args.owners.now c.args.starts.now c.args.items.now in
    let w = going c.args.width c.args.height c.args.given.now c.args.lens.now (rooms_of lent) _ (sym c.decide.ensures ∙ c.in_ok-site.was) in
    indexable c.args.width c.args.height c.args.given.now c.args.lens.now (rooms_of lent) _ w (length c.args.points.now) (length c.args.polygons.now) _ _ c.lay_out.ensures.points_after c.lay_out.ensures.polygons_after

pub returns-in_err-site : goal.returns-in_err-site
returns-in_err-site c =
    let lent = tables c.args.points.now c.args.boxes.now c.args.polygons.now c.args.owners.now c.args.starts.now c.args.items.now in
    let p = err_from_is_err_and c.from_residual.result c.from_residual.ensures.1 in
    rw (p.1, p.2) (refused_way c.args.width c.args.height c.args.given.now c.args.lens.now lent _ (sym c.decide.ensures ∙ c.in_err-site.was))

pub shape_of-points : goal.shape_of-points
shape_of-points c = c.lay_out.auto.points

pub shape_of-boxes : goal.shape_of-boxes
shape_of-boxes c = c.index.auto.boxes

pub shape_of-polygons : goal.shape_of-polygons
shape_of-polygons c = c.lay_out.auto.polygons

pub shape_of-owners : goal.shape_of-owners
shape_of-owners c = c.lay_out.auto.owners

pub shape_of-starts : goal.shape_of-starts
shape_of-starts c = c.index.auto.starts

pub shape_of-items : goal.shape_of-items
shape_of-items c = c.index.auto.items

pub returns : goal.returns
returns c =
    let lent = tables c.args.points.now c.args.boxes.now c.args.polygons.now c.args.owners.now c.args.starts.now c.args.items.now in
    made_way c.args.width c.args.height c.args.given.now c.args.lens.now lent _ (sym c.decide.ensures ∙ c.in_ok-site.was) _ _ _ _ _ _ c.lay_out.ensures.points_after c.lay_out.ensures.polygons_after c.lay_out.ensures.owners_after c.index.ensures.boxes_after c.index.ensures.starts_after c.index.ensures.after
