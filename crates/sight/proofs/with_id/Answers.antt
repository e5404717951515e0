-- `with_id`: one id more, if it passes. Assumes nothing.
use mathlib.Core.Path.{sym, ◌∙◌}
use Rattle.sight.proofs.with_id.Goals as goal

pub returns-then-holds_point : goal.returns-then-holds_point
returns-then-holds_point c = simp (sym c.holds_point.ensures ∙ c.if-holds_point.true) c.higher.ensures

pub returns : goal.returns
returns c = simp (sym c.holds_point.ensures ∙ c.if-holds_point.false)
