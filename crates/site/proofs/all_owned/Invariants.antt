-- `site::all_owned` meets its contract. Assumes nothing.
use mathlib.Core.Path.{◌≡◌}
use Rattle.site.specs.Soundness.{owned}
use Rattle.lists.specs.Members.{all_to}
use Rattle.site.proofs.all_owned.Given as goal

abbrev pub invariant-loop-i : goal.invariant-loop-i
invariant-loop-i l = l.ok ≡ all_to (owned l.n l.polygons l.owners) l.i
