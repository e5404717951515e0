-- `holds_point`: the box first, then the points. Assumes nothing.
use Rattle.std.proofs.Common.{refl}
use Rattle.grid.specs.Boxes.{box_at}
use mathlib.Core.Path.{ap, ◌∙◌}
use Rattle.sight.proofs.Ways.{box_without, box_with}
use Rattle.sight.proofs.holds_point.Goals as goal

pub returns-else-contains : goal.returns-else-contains
returns-else-contains c = c.if-contains.false ∙ box_without _ _ _ _ _ _ _ (c.box_at.ensures ∙ ap (box_at _) refl) c.contains.ensures c.if-contains.false

pub returns-then-contains : goal.returns-then-contains
returns-then-contains c = box_with _ _ _ _ _ _ _ (c.box_at.ensures ∙ ap (box_at _) refl) c.contains.ensures c.if-contains.true _ _ c.verts_of.ensures c.point_in_polygon.ensures
