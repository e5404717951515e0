-- WHAT A QUERY FINDS AND THE ROOM LENT FOR IT: refused as 8 exactly where more ids are found than there is room for; otherwise the list holds them, and zeros
-- behind. Over any tables and stamps. Assumes nothing.
use Rattle.std.proofs.Common.{None, Option, Some, Err}
use Prim.Native.Nat.{ℕ, ◌≤◌}
use mathlib.Core.Path.{◌≡◌, refl, sym}
use mathlib.Core.Bool.{Bool, true, false, cond}
use mathlib.Core.List.{List}
use native.Mathlib.Omega.{arith}
use lib.Dec.{ltb}
use lib.ListN.{length}
use borrow.Author.Tests.{le-ltb}
use Rattle.lists.specs.Parts.{padded}
use Rattle.lists.proofs.Zeros.{padded_nil}
use Rattle.geom.specs.declared.Aabb.{Aabb}
use Rattle.grid.specs.Range.{range_of}
use Rattle.grid.specs.Stamps.{epoch_after, marks_begun, firsts}
use Rattle.grid.specs.Entries.{entries_in}
use Rattle.grid.specs.Query.{outcome_by, outcome, found_by, found_of, counted}
use Rattle.grid.specs.declared.Grid.{Grid}
use Rattle.refusal.specs.declared.Refusal.TheVariants.{NoListRoom}
use Rattle.grid.specs.declared.CellRange.{CellRange}
use Rattle.refusal.specs.Numbers.{status_of}

status_by : (b : Bool) (written read : ℕ) → status_of (cond b (Err NoListRoom) (counted written read)) ≡ cond b 8 0
status_by true written read = refl
status_by false written read = refl

module _ (g : Grid) (starts items m : List ℕ) (e k : ℕ) where
  eight_by : (r : (Option CellRange)) → status_of (outcome_by g r starts items m e k).answer ≡ cond (ltb k (length (found_by g r starts items m e))) 8 0
  unfolding outcome_by found_by
  eight_by None = let z : ltb k 0 ≡ false = le-ltb k 0 (omega arith) in rw z
  eight_by (Some r) =
      let found = firsts (epoch_after e) (marks_begun e m) (entries_in g r starts items) in
      status_by (ltb k (length found)) (length found) (length (entries_in g r starts items))

  listed_by : (r : (Option CellRange)) → length (found_by g r starts items m e) ≤ k → (outcome_by g r starts items m e k).ids ≡ padded 0 k (found_by g r starts items m e)
  unfolding outcome_by found_by
  listed_by None h = sym (padded_nil 0 k)
  listed_by (Some r) h = rw (le-ltb k (length (firsts (epoch_after e) (marks_begun e m) (entries_in g r starts items))) h)

  module _ (b : Aabb) where
    pub found_eight : status_of (outcome g b starts items m e k).answer ≡ cond (ltb k (length (found_of g b starts items m e))) 8 0
    unfolding outcome found_of
    found_eight = eight_by (range_of g b)

    pub found_listed : length (found_of g b starts items m e) ≤ k → (outcome g b starts items m e k).ids ≡ padded 0 k (found_of g b starts items m e)
    unfolding outcome found_of
    found_listed h = listed_by (range_of g b) h
