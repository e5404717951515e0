-- `site::owns_points` meets its contract. Assumes nothing.
use mathlib.Core.Path.{◌≡◌}
use Rattle.site.specs.Tables.{first_of, owner_at}
use Rattle.lists.specs.Members.{all_to}
use lib.Dec.{eqb}
use Prim.Native.Nat.{◌+◌}
use Rattle.site.proofs.owns_points.Given as goal

abbrev pub invariant-loop-owner : goal.invariant-loop-owner
invariant-loop-owner l = l.ok ≡ all_to (λ i. eqb (owner_at l.owners (first_of l.polygons l.k + i)) l.k) l.owner-index
