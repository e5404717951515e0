-- `site::boxes_right` meets its contract. Assumes nothing.
use mathlib.Core.Path.{◌≡◌}
use Rattle.site.specs.Soundness.{box_right}
use Rattle.lists.specs.Members.{all_to}
use Rattle.site.proofs.boxes_right.Given as goal

abbrev pub invariant-loop-k : goal.invariant-loop-k
invariant-loop-k l = l.ok ≡ all_to (box_right l.points l.boxes l.polygons) l.k
