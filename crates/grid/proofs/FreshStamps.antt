-- FRESH STAMPS (document 01, demand 3): new stamps are fresh, and every query keeps them fresh, whatever the tables, the box and the room are,
-- refused or not, and also where the epoch passes the largest number and all marks are cleared. As an epoch begins no mark is the epoch. Assumes nothing.
use Rattle.std.proofs.Common.{None, Option, Some}
use Prim.Native.Nat.{ℕ, ◌≤◌, ◌<◌}
use mathlib.Core.Path.{◌≡◌, refl}
use mathlib.Core.List.{List, [], ◌∷◌}
use mathlib.Core.Bool.{Bool, true, false}
use native.Mathlib.Omega.{arith}
use native.Mathlib.Nat.{le_refl, le_of_eq, le_of_lt}
use lib.ListN.{length, get_or, set, replicate}
use lib.Dec.{ltb}
use Rattle.lists.proofs.Stores.{get_d_set_either}
use Rattle.lists.proofs.Zeros.{get_d_zeros}
use Rattle.geom.specs.declared.Aabb.{Aabb}
use Rattle.grid.specs.Range.{range_of}
use Rattle.grid.specs.Stamps.{epoch_after, marks_begun, stamped, Fresh}
use Rattle.grid.specs.Entries.{entries_in}
use Rattle.grid.specs.Query.{outcome_by, outcome}
use Rattle.grid.specs.declared.Grid.{Grid}
use Rattle.grid.proofs.Stamping.{stamped_nil, stamped_cons}
use Rattle.grid.specs.declared.CellRange.{CellRange}

-- `new_stamps`
pub new_fresh : (n : ℕ) → Fresh 0 (replicate n 0)
new_fresh n i = le_of_eq (get_d_zeros {A = ℕ} 0 n i)

-- `next_epoch`: no mark is the new epoch
begun_by : (e : ℕ) (m : List ℕ) (b : Bool) → ltb e 4294967295 ≡ b → Fresh e m → (i : ℕ) → get_or (marks_begun e m) i 0 < epoch_after e
begun_by e m true t k i = rw t (omega (arith, k i))
begun_by e m false t k i = rw t (rw (get_d_zeros {A = ℕ} 0 (length m) i) (omega arith))

pub begun_bare : (e : ℕ) (m : List ℕ) → Fresh e m → (i : ℕ) → get_or (marks_begun e m) i 0 < epoch_after e
begun_bare e m k = begun_by e m _ refl k

-- `mark`
pub mark_fresh : (e x : ℕ) (m : List ℕ) → Fresh e m → Fresh e (set m x e)
mark_fresh e x m k i = get_d_set_either (λ (v : ℕ). v ≤ e) m x i e 0 (le_refl e) (k i)

-- meeting any ids
pub stamped_fresh : (e : ℕ) (m xs : List ℕ) → Fresh e m → Fresh e (stamped e m xs)
stamped_fresh e m [] k = rw stamped_nil k
stamped_fresh e m (x ∷ xs) k = rw stamped_cons (stamped_fresh e (set m x e) xs (mark_fresh e x m k))

query_by : (g : Grid) (q : (Option CellRange)) (starts items m : List ℕ) (e k : ℕ) → Fresh e m → Fresh (outcome_by g q starts items m e k).epoch (outcome_by g q starts items m e k).marks
unfolding outcome_by
query_by g None starts items m e k f = f
query_by g (Some r) starts items m e k f = stamped_fresh (epoch_after e) (marks_begun e m) (entries_in g r starts items) (λ i. le_of_lt (begun_bare e m f i))

-- EVERY BOX QUERY keeps the stamps fresh
pub query_fresh : (g : Grid) (b : Aabb) (starts items m : List ℕ) (e k : ℕ) → Fresh e m → Fresh (outcome g b starts items m e k).epoch (outcome g b starts items m e k).marks
unfolding outcome
query_fresh g b starts items m e k f = query_by g (range_of g b) starts items m e k f
