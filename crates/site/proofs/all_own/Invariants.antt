-- `site::all_own` meets its contract. Assumes nothing.
use mathlib.Core.Path.{◌≡◌}
use mathlib.Core.Bool.{true}
use Rattle.lists.specs.Members.{all_to}
use Rattle.site.specs.Soundness.{owns}
use Rattle.site.proofs.all_own.Given as goal

abbrev pub invariant-loop-k : goal.invariant-loop-k
invariant-loop-k l = all_to (owns l.polygons l.owners) l.k ≡ true
