-- `fan::add_polygon`: a polygon out of range gives nothing, and any other is a candidate. Assumes nothing.
use Rattle.fan.specs.Fan.{polygon_fan}
use mathlib.Core.Bool.{or-false}
use Rattle.fan.proofs.Adding.{added_none, added_counts, added_both}
use mathlib.Core.Bool.{false}
use mathlib.Core.Path.{refl, sym, ◌∙◌}
use Rattle.fan.proofs.add_polygon.Goals as goal

pub returns-then-is_far : goal.returns-then-is_far
unfolding polygon_fan
returns-then-is_far c = rw (sym c.is_far.ensures ∙ c.if-is_far.true) (added_none _ _ _)

pub returns : goal.returns
unfolding polygon_fan
returns c = rw (sym c.is_far.ensures ∙ c.if-is_far.false) (added_both (added_counts 1 false _ _ _ _ refl refl refl (sym (or-false _))) (rw (c.first_of-first.ensures, c.len_of-n.ensures) at c.polygon_sides.ensures))
