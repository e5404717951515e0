-- `plan_of`: empty, inside, or a box. Assumes nothing.
use Rattle.view.proofs.Asking.{plan_empty, plan_inside, plan_query}
use Rattle.view.specs.Post.{is_empty}
use mathlib.Core.Path.{sym, ap, ◌∙◌}
use Rattle.view.proofs.plan_of.Goals as goal

pub returns-then-is_empty : goal.returns-then-is_empty
returns-then-is_empty c = plan_empty _ _ _ _ _ _ _ (sym (c.is_empty.ensures ∙ ap is_empty c.view_of.ensures) ∙ c.if-is_empty.true)

pub returns-in-Some : goal.returns-in-Some
returns-in-Some c = plan_inside _ _ _ _ _ _ _ (sym (c.is_empty.ensures ∙ ap is_empty c.view_of.ensures) ∙ c.if-is_empty.false) c.polygon_at.ensures c.in-Some.is

pub returns-in-None : goal.returns-in-None
returns-in-None c = plan_query _ _ _ _ _ _ _ (sym (c.is_empty.ensures ∙ ap is_empty c.view_of.ensures) ∙ c.if-is_empty.false) c.polygon_at.ensures c.in-None.is c.aabb.ensures
