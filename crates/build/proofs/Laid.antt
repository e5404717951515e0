-- What stands in the tables that building writes: each polygon's points, place, owner and box. Assumes nothing.
use mathlib.Core.Path.{◌≡◌, refl, sym, ap, ◌∙◌}
use mathlib.Core.Logic.{⊎_elim}
use mathlib.Core.List.{List, [], ◌∷◌}
use Prim.Native.Nat.{ℕ, zero, suc, ◌+◌, ◌*◌, ◌≤◌, ◌<◌}
use native.Mathlib.Nat.{not-suc-le-zero}
use native.Mathlib.Omega.{arith}
use lib.ListN.{length, get_or, replicate, length-replicate, get_or-replicate}
use lib.Ieee.{Float}
use Rattle.lists.specs.Lists.{joined, sum_to}
use Rattle.lists.specs.Parts.{padded}
use Rattle.lists.proofs.Cases.{lt_or_le}
use Rattle.lists.proofs.Joined.{joined_ext, joined_part, length_joined}
use Rattle.lists.proofs.Sums.{sum_to_ext}
use Rattle.num.specs.Ops.{zero_f}
use Rattle.grid.specs.declared.Grid.{Grid}
use Rattle.grid.specs.Range.{range_of}
use Rattle.extent.specs.Boxes.{polygon_box_of}
use Rattle.site.specs.Tables.{first_of, len_of, owner_at, verts_of, box_of}
use Rattle.build.specs.Stored.{len_in, first_in, stored_of, stored_box, points_of, box_numbers, boxes_table, polygons_table, owners_table, span_in}
use Rattle.build.specs.Refusals.{Counted}
use Rattle.build.specs.Outcome.{span_at}
use Rattle.build.proofs.Orders.{points_length}
use Rattle.build.proofs.Spans.{in_block, in_even}

-- ---- the polygons
module _ (lens : List ℕ) (m k : ℕ) (h : k < length lens) where
  at : (i : ℕ) → i < 2 → get_or (padded 0 m (polygons_table lens)) (2 * k + i) 0 ≡ get_or (first_in lens k ∷ len_in lens k ∷ []) i 0
  unfolding polygons_table
  at i l =
      let e : 2 * k + i ≡ k * 2 + i = omega arith in
      ap (λ (j : ℕ). get_or (padded 0 m (polygons_table lens)) j 0) e ∙ in_even (λ j. first_in lens j ∷ len_in lens j ∷ []) 2 (length lens) k i 0 _ (λ j. refl) h l

  pub first_is : first_of (padded 0 m (polygons_table lens)) k ≡ first_in lens k
  first_is =
      let e : 2 * k ≡ 2 * k + 0 = omega arith in
      ap (λ (j : ℕ). get_or (padded 0 m (polygons_table lens)) j 0) e ∙ at 0 (omega arith)

  pub len_is : len_of (padded 0 m (polygons_table lens)) k ≡ len_in lens k
  len_is = at 1 (omega arith)

-- ---- the points and the boxes
module _ (given : List Float) (lens : List ℕ) (c : Counted given lens) (m n k : ℕ) (h : k < length lens) where
  pub verts_are : verts_of (padded zero_f m (points_of given lens)) (padded 0 n (polygons_table lens)) k ≡ stored_of given lens k
  unfolding points_of
  verts_are =
      let a : sum_to (λ j. length (stored_of given lens j)) k ≡ 2 * first_in lens k = sym (length_joined (stored_of given lens) k) ∙ points_length given lens k c (omega arith) in
      let b : sum_to (λ j. length (stored_of given lens j)) (suc k) ≡ 2 * (first_in lens k + len_in lens k) = sym (length_joined (stored_of given lens) (suc k)) ∙ points_length given lens (suc k) c h in
      rw (first_is lens n k h, len_is lens n k h, ← a, ← b) (joined_part (stored_of given lens) (length lens) k _ h)

  pub box_is_right : box_of (padded zero_f m (points_of given lens)) (padded 0 n (polygons_table lens)) k ≡ stored_box given lens k
  unfolding stored_box
  box_is_right = ap polygon_box_of verts_are

  pub span_right : (g : Grid) → span_at g (padded zero_f m (points_of given lens)) (padded 0 n (polygons_table lens)) k ≡ span_in g given lens k
  unfolding span_at span_in
  span_right g = ap (range_of g) box_is_right

pub boxes_right : (given : List Float) (lens : List ℕ) → Counted given lens → (m n : ℕ)
    → joined (λ k. box_numbers (box_of (padded zero_f m (points_of given lens)) (padded 0 n (polygons_table lens)) k)) (length lens) ≡ boxes_table given lens
unfolding boxes_table
boxes_right given lens c m n =
    joined_ext (λ k. box_numbers (box_of (padded zero_f m (points_of given lens)) (padded 0 n (polygons_table lens)) k)) (λ k. box_numbers (stored_box given lens k)) (length lens)
    (λ k h. ap box_numbers (box_is_right given lens c m n k h))

-- ---- the owners
pub owner_is : (lens : List ℕ) (m k j : ℕ) → k < length lens → j < len_in lens k → owner_at (padded 0 m (owners_table lens)) (first_in lens k + j) ≡ k
unfolding owners_table
owner_is lens m k j h l =
    in_block (λ i. replicate (len_in lens i) i) (length lens) k j (first_in lens k) 0 _ h (rw length-replicate l)
    (sym (sum_to_ext (λ i. length (replicate (len_in lens i) i)) (len_in lens) k (λ i q. length-replicate (len_in lens i) i)))
    ∙ get_or-replicate (len_in lens k) j k 0 l

-- the block that a number falls into
pub record Block (f : ℕ → ℕ) (n i : ℕ) : Type 0 where
  pub at : ℕ
  pub below : at < n
  pub from : sum_to f at ≤ i
  pub upto : i < sum_to f at + f at

pub block_of : (f : ℕ → ℕ) (n i : ℕ) → i < sum_to f n → Block f n i
block_of f zero i h = absurd (not-suc-le-zero h)
block_of f (suc n) i h =
    ⊎_elim
    (λ l. let b = block_of f n i l in record { at = b.at; below = omega (arith, b.below); from = b.from; upto = b.upto })
    (λ l. record { at = n; below = omega arith; from = l; upto = h })
    (lt_or_le i (sum_to f n))
