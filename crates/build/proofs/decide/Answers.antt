-- `decide`: the refusals in their order, and the plan of a site (Deciding). Assumes nothing.
use mathlib.Core.Path.{sym, ◌∙◌}
use Rattle.build.proofs.Deciding.{too_many_way, not_adding, outside_way, inside_way, few_polygons, counted}
use Rattle.build.proofs.decide.Goals as goal

pub returns-then-too_many : goal.returns-then-too_many
returns-then-too_many c = too_many_way c.args.width c.args.height c.args.given.now c.args.lens.now c.args.room (sym c.too_many.ensures ∙ c.if-too_many.true)

pub adds_up-requires : goal.adds_up-requires
adds_up-requires c = few_polygons c.args.given.now c.args.lens.now (sym c.too_many.ensures ∙ c.if-too_many.false)

pub returns-then-not-adds_up : goal.returns-then-not-adds_up
returns-then-not-adds_up c = not_adding c.args.width c.args.height c.args.given.now c.args.lens.now c.args.room (sym c.too_many.ensures ∙ c.if-too_many.false) (sym c.adds_up.ensures ∙ c.if-not-adds_up.true)

pub returns-then-not-all_inside : goal.returns-then-not-all_inside
returns-then-not-all_inside c = outside_way c.args.width c.args.height c.args.given.now c.args.lens.now c.args.room (sym c.too_many.ensures ∙ c.if-too_many.false) (sym c.adds_up.ensures ∙ c.if-not-adds_up.false) (sym c.all_inside.ensures ∙ c.if-not-all_inside.true)

pub lay_grid-requires : goal.lay_grid-requires
lay_grid-requires c = counted c.args.given.now c.args.lens.now (sym c.too_many.ensures ∙ c.if-too_many.false) (sym c.adds_up.ensures ∙ c.if-not-adds_up.false)

pub returns : goal.returns
returns c = c.lay_grid.ensures ∙ inside_way c.args.width c.args.height c.args.given.now c.args.lens.now c.args.room (sym c.too_many.ensures ∙ c.if-too_many.false) (sym c.adds_up.ensures ∙ c.if-not-adds_up.false) (sym c.all_inside.ensures ∙ c.if-not-all_inside.false)
