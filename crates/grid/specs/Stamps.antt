-- The visited set of `grid.rs`, `Stamps`: a mark for each id, and an epoch. An id is seen where its mark is the epoch. Document 01, "Site and grid".
-- A mark past the end of the lent list reads as 0, and a store there does nothing (`get_or`, `set`). Definitions only.
use Rattle.std.specs.Prelude.{ℕ, ◌+◌, ◌≤◌, Bool, not, cond, List, [], ◌∷◌, length, get_or, set, replicate, eqb, ltb}

-- the epoch after the epoch e: one more, and past the largest it is 1
abbrev pub epoch_after : ℕ → ℕ
epoch_after e = cond (ltb e 4294967295) (e + 1) 1

-- the marks as the epoch after e begins: past the largest epoch every lent mark is cleared
abbrev pub marks_begun : ℕ → List ℕ → List ℕ
marks_begun e m = cond (ltb e 4294967295) m (replicate (length m) 0)

-- the id is met for the first time in the epoch e
abbrev pub unseen : ℕ → List ℕ → ℕ → Bool
unseen e m id = not (eqb (get_or m id 0) e)

-- the marks after the ids xs are met in the epoch e
unfoldable pub stamped : ℕ → List ℕ → List ℕ → List ℕ
stamped e m [] = m
stamped e m (x ∷ xs) = stamped e (set m x e) xs

-- those of xs that bear no stamp of the epoch e when they are met, in order
unfoldable pub firsts : ℕ → List ℕ → List ℕ → List ℕ
firsts e m [] = []
firsts e m (x ∷ xs) = cond (eqb (get_or m x 0) e) (firsts e m xs) (x ∷ firsts e (set m x e) xs)

-- FRESH STAMPS: no mark is above the epoch. New ones are, and every query keeps them so (proofs/FreshStamps.antt)
abbrev pub Fresh : ℕ → List ℕ → Type 0
Fresh e m = (i : ℕ) → get_or m i 0 ≤ e
