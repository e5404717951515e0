-- The corners of an event: read as the sweep reads them, from the front of the words, they are those of the merged event that stands in the room. Assumes nothing.
use mathlib.Core.Path.{◌≡◌, refl, ap, ◌∙◌}
use mathlib.Core.Bool.{not}
use mathlib.Core.List.{List}
use Prim.Native.Nat.{ℕ, zero, suc, ◌+◌, ◌-◌, ◌≤◌, ◌<◌}
use native.Mathlib.Omega.{arith}
use borrow.Author.Tests.{ne_eqb}
use lib.Dec.{eqb}
use lib.ListN.{length}
use lib.Ieee.{Float}
use Rattle.lists.specs.Lists.{cons_if}
use Rattle.lists.specs.Parts.{part}
use Rattle.sorts.specs.Sort.{dedup}
use Rattle.room.specs.declared.Rooms.{Rooms}
use Rattle.room.specs.Layout.{corners_w, seen_w}
use Rattle.room.specs.Records.{merged_at}
use Rattle.events.specs.Held.{end_at, spot_at}
use Rattle.seen.specs.Seen.{first_corner, corners_of}
use Rattle.sweep.proofs.Front.{corners_front}
use Rattle.stages.specs.Drawing.{spot_corners}

module _ (k : Rooms) (floats : List Float) (words : List ℕ) where
  first_end : (i : ℕ) → first_corner k floats words i ≡ end_at k floats words i
  unfolding first_corner
  first_end zero = refl
  first_end (suc i) = let e : suc i - 1 ≡ i = omega arith in rw (ne_eqb (suc i) 0 (λ (z : suc i ≡ 0). omega (arith, z)), e)

  pub corners_are : (i : ℕ) → i < k.events → seen_w k ≤ length words → end_at k floats words (suc i) ≤ k.corners → corners_of k floats (part 0 (seen_w k) words) i ≡ spot_corners (spot_at k floats words i)
  unfolding spot_corners spot_at
  corners_are i l long h =
      corners_front k floats words i l long h
      ∙ ap (λ (lo : ℕ). cons_if (not (eqb (merged_at k floats words i).vertex 4294967295)) (merged_at k floats words i).vertex (dedup (part (corners_w k + lo) (corners_w k + (merged_at k floats words i).end) words)))
      (first_end i)
