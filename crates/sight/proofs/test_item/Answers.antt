-- `test_item`: passed over, or into the ring and then the box test. Assumes nothing.
use Rattle.std.proofs.Common.{refl}
use Rattle.grid.specs.Boxes.{box_at}
use mathlib.Core.Path.{ap, ◌∙◌}
use Rattle.sight.proofs.Ways.{item_lately, item_passed, item_tested}
use Rattle.sight.proofs.test_item.Goals as goal

pub returns-then-has : goal.returns-then-has
returns-then-has c = item_lately _ _ _ _ _ _ _ _ c.has.ensures c.if-has.true

pub returns-then-not-ray_hits_aabb : goal.returns-then-not-ray_hits_aabb
returns-then-not-ray_hits_aabb c = item_passed _ _ _ _ _ _ _ _ c.has.ensures c.if-has.false _ c.push-filled.ensures _ _ (c.box_at.ensures ∙ ap (box_at _) refl) c.ray_hits_aabb.ensures (c.if-not-ray_hits_aabb.true)

pub returns : goal.returns
returns c = item_tested _ _ _ _ _ _ _ _ c.has.ensures c.if-has.false _ c.push-filled.ensures _ _ (c.box_at.ensures ∙ ap (box_at _) refl) c.ray_hits_aabb.ensures (c.if-not-ray_hits_aabb.false) _ _ _ c.verts_of.ensures c.first_of.ensures c.test_edges-nearest.ensures
