-- `cone::ViewCone::outline` meets its contract: refused, or drawn and the rest cleared (proofs/Outlining.antt). Assumes nothing.
use mathlib.Core.Path.{sym, ◌∙◌}
use native.Mathlib.Omega.{arith}
use Rattle.cone.proofs.FewSteps.{few_points}
use Rattle.cone.proofs.Outlining.{way_one, way_eight, way_laid}
use Rattle.cone.proofs.ViewCone.outline.Goals as goal

pub returns-then-not-in_domain : goal.returns-then-not-in_domain
returns-then-not-in_domain c = way_one _ _ _ (sym c.in_domain.ensures ∙ c.if-not-in_domain.true)

pub overflow_mul-end : goal.overflow_mul-end
overflow_mul-end c = omega (arith, c.draw-n.ensures.count, few_points c.loaded.result c.load.result)

pub returns-then-room-end : goal.returns-then-room-end
returns-then-room-end c =
    way_eight _ _ _ _ _ (sym c.in_domain.ensures ∙ c.if-not-in_domain.false) c.loaded.ensures c.load.ensures c.draw-n.ensures c.draw-n.auto.out
    c.if-room-end.true c.clear.ensures

pub returns : goal.returns
returns c =
    way_laid _ _ _ _ _ (sym c.in_domain.ensures ∙ c.if-not-in_domain.false) c.loaded.ensures c.load.ensures c.draw-n.ensures c.draw-n.auto.out
    c.if-room-end.false c.clear_from.ensures
