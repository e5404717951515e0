-- `grid::box_at` meets its contract. Assumes nothing.
use Rattle.grid.specs.Boxes.{box_from, box_at}
use lib.Ieee.{Float, nan}
use lib.ListN.{length, get_or, get_or-eq_default}
use native.Mathlib.Omega.{arith}
use Prim.Native.Nat.{ℕ, ◌+◌, ◌*◌, ◌/◌, ◌<◌, ◌≤◌}
use mathlib.Core.List.{List, []}
use mathlib.Core.Path.{◌≡◌, ◌∙◌}
use Rattle.grid.proofs.box_at.Goals as goal

-- past the end of the list every number is NaN
past : (boxes : List Float) (k : ℕ) → length boxes / 4 < k → box_from [] 0 ≡ box_at boxes k
unfolding box_from box_at
past boxes k h = simp (none (k * 4) (omega arith), none (k * 4 + 1) (omega arith), none (k * 4 + 2) (omega arith), none (k * 4 + 3) (omega arith))
  where
    none : (i : ℕ) → length boxes ≤ i → get_or boxes i nan ≡ nan
    none i l = get_or-eq_default boxes nan l

pub returns-then-boxes-k : goal.returns-then-boxes-k
returns-then-boxes-k c = c.box_from.ensures ∙ past _ _ c.if-boxes-k.true

pub returns : goal.returns
unfolding box_at
returns c = c.box_from-2.ensures
