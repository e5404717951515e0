-- `site::items_right` meets its contract. Assumes nothing.
use mathlib.Core.Path.{◌≡◌}
use Rattle.site.specs.Tables.{item_at}
use Rattle.site.specs.Soundness.{item_right}
use Rattle.lists.specs.Members.{all_to}
use Rattle.site.proofs.items_right.Given as goal

abbrev pub invariant-loop-k : goal.invariant-loop-k
invariant-loop-k l = l.ok ≡ all_to (λ j. item_right l.n l.polygons (item_at l.items j)) l.k-index
