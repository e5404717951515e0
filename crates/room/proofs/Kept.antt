-- What stands in the room stays where its stretches stay. A stretch stays where another one is all that was written (`only_part` of the crate
-- `lists`). Assumes nothing.
use mathlib.Core.Path.{◌≡◌, ap}
use mathlib.Core.Bool.{false}
use mathlib.Core.List.{List}
use Prim.Native.Nat.{ℕ, ◌+◌, ◌*◌, ◌≤◌, ◌<◌}
use native.Mathlib.Omega.{arith}
use lib.ListN.{get_or}
use lib.Ieee.{Float, nan}
use lib.Dec.{eqb, ltb}
use borrow.Author.Tests.{ltb-false}
use Rattle.lists.specs.Parts.{part}
use Rattle.lists.proofs.AllTo.{neither}
use Rattle.lists.proofs.Only.{part_get_d}
use Rattle.lists.proofs.Joined.{listed_ext}
use Rattle.room.specs.declared.Rooms.{Rooms}
use Rattle.room.specs.Layout.{edges_f, events_f, merged_f, samples_f, distances_f, dirs_f, floats_for, edges_w, nearest_w, events_w, turns_w, merged_w, corners_w, samples_w, order_w, words_for, Fit, is_short}
use Rattle.room.specs.Records.{edge_at, event_at, merged_at, sample_at, dir_at, tie_at, edges_in, events_in, merged_in, samples_in}

-- from f and w to f' and w'
module _ (k : Rooms) (f f' : List Float) (w w' : List ℕ) where
  pub edge_kept : (i : ℕ) → i < k.edges → part 0 (events_f k) f' ≡ part 0 (events_f k) f → part (edges_w k) (nearest_w k) w' ≡ part (edges_w k) (nearest_w k) w
      → edge_at k f' w' i ≡ edge_at k f w i
  unfolding edge_at
  edge_kept i h p q =
      let a : get_or f' (edges_f k + 6 * i) nan ≡ get_or f (edges_f k + 6 * i) nan = part_get_d 0 (events_f k) f f' _ nan p (omega arith) (omega arith) in
      let b : get_or f' (edges_f k + 6 * i + 1) nan ≡ get_or f (edges_f k + 6 * i + 1) nan = part_get_d 0 (events_f k) f f' _ nan p (omega arith) (omega arith) in
      let c : get_or f' (edges_f k + 6 * i + 2) nan ≡ get_or f (edges_f k + 6 * i + 2) nan = part_get_d 0 (events_f k) f f' _ nan p (omega arith) (omega arith) in
      let d : get_or f' (edges_f k + 6 * i + 3) nan ≡ get_or f (edges_f k + 6 * i + 3) nan = part_get_d 0 (events_f k) f f' _ nan p (omega arith) (omega arith) in
      let s : get_or f' (edges_f k + 6 * i + 4) nan ≡ get_or f (edges_f k + 6 * i + 4) nan = part_get_d 0 (events_f k) f f' _ nan p (omega arith) (omega arith) in
      let t : get_or f' (edges_f k + 6 * i + 5) nan ≡ get_or f (edges_f k + 6 * i + 5) nan = part_get_d 0 (events_f k) f f' _ nan p (omega arith) (omega arith) in
      let m : get_or f' i nan ≡ get_or f i nan = part_get_d 0 (events_f k) f f' i nan p (omega arith) (omega arith) in
      let u : get_or w' (edges_w k + i) 0 ≡ get_or w (edges_w k + i) 0 = part_get_d (edges_w k) (nearest_w k) w w' _ 0 q (omega arith) (omega arith) in
      rw (a, b, c, d, s, t, m, u)

  pub event_kept : (i : ℕ) → i < k.events → part (events_f k) (merged_f k) f' ≡ part (events_f k) (merged_f k) f → part (events_w k) (turns_w k) w' ≡ part (events_w k) (turns_w k) w
      → event_at k f' w' i ≡ event_at k f w i
  unfolding event_at
  event_kept i h p q =
      let a : get_or f' (events_f k + i) nan ≡ get_or f (events_f k + i) nan = part_get_d (events_f k) (merged_f k) f f' _ nan p (omega arith) (omega arith) in
      let b : get_or w' (events_w k + 2 * i) 0 ≡ get_or w (events_w k + 2 * i) 0 = part_get_d (events_w k) (turns_w k) w w' _ 0 q (omega arith) (omega arith) in
      let c : get_or w' (events_w k + 2 * i + 1) 0 ≡ get_or w (events_w k + 2 * i + 1) 0 = part_get_d (events_w k) (turns_w k) w w' _ 0 q (omega arith) (omega arith) in
      rw (a, b, c)

  pub merged_kept : (i : ℕ) → i < k.events → part (merged_f k) (samples_f k) f' ≡ part (merged_f k) (samples_f k) f → part (merged_w k) (corners_w k) w' ≡ part (merged_w k) (corners_w k) w
      → merged_at k f' w' i ≡ merged_at k f w i
  unfolding merged_at
  merged_kept i h p q =
      let a : get_or f' (merged_f k + i) nan ≡ get_or f (merged_f k + i) nan = part_get_d (merged_f k) (samples_f k) f f' _ nan p (omega arith) (omega arith) in
      let b : get_or w' (merged_w k + 3 * i) 0 ≡ get_or w (merged_w k + 3 * i) 0 = part_get_d (merged_w k) (corners_w k) w w' _ 0 q (omega arith) (omega arith) in
      let c : get_or w' (merged_w k + 3 * i + 1) 0 ≡ get_or w (merged_w k + 3 * i + 1) 0 = part_get_d (merged_w k) (corners_w k) w w' _ 0 q (omega arith) (omega arith) in
      let d : get_or w' (merged_w k + 3 * i + 2) 0 ≡ get_or w (merged_w k + 3 * i + 2) 0 = part_get_d (merged_w k) (corners_w k) w w' _ 0 q (omega arith) (omega arith) in
      rw (a, b, c, d)

  pub sample_kept : (i : ℕ) → i < k.samples → part (samples_f k) (dirs_f k) f' ≡ part (samples_f k) (dirs_f k) f → part (samples_w k) (order_w k) w' ≡ part (samples_w k) (order_w k) w
      → sample_at k f' w' i ≡ sample_at k f w i
  unfolding sample_at
  sample_kept i h p q =
      let a : get_or f' (samples_f k + i) nan ≡ get_or f (samples_f k + i) nan = part_get_d (samples_f k) (dirs_f k) f f' _ nan p (omega arith) (omega arith) in
      let t : get_or f' (distances_f k + i) nan ≡ get_or f (distances_f k + i) nan = part_get_d (samples_f k) (dirs_f k) f f' _ nan p (omega arith) (omega arith) in
      let b : get_or w' (samples_w k + 4 * i) 0 ≡ get_or w (samples_w k + 4 * i) 0 = part_get_d (samples_w k) (order_w k) w w' _ 0 q (omega arith) (omega arith) in
      let c : get_or w' (samples_w k + 4 * i + 1) 0 ≡ get_or w (samples_w k + 4 * i + 1) 0 = part_get_d (samples_w k) (order_w k) w w' _ 0 q (omega arith) (omega arith) in
      let d : get_or w' (samples_w k + 4 * i + 2) 0 ≡ get_or w (samples_w k + 4 * i + 2) 0 = part_get_d (samples_w k) (order_w k) w w' _ 0 q (omega arith) (omega arith) in
      let u : get_or w' (samples_w k + 4 * i + 3) 0 ≡ get_or w (samples_w k + 4 * i + 3) 0 = part_get_d (samples_w k) (order_w k) w w' _ 0 q (omega arith) (omega arith) in
      rw (a, t, b, c, d, u)

  pub dir_kept : (i : ℕ) → i < k.samples → part (dirs_f k) (floats_for k) f' ≡ part (dirs_f k) (floats_for k) f → dir_at k f' i ≡ dir_at k f i
  unfolding dir_at
  dir_kept i h p =
      let a : get_or f' (dirs_f k + 2 * i) nan ≡ get_or f (dirs_f k + 2 * i) nan = part_get_d (dirs_f k) (floats_for k) f f' _ nan p (omega arith) (omega arith) in
      let b : get_or f' (dirs_f k + 2 * i + 1) nan ≡ get_or f (dirs_f k + 2 * i + 1) nan = part_get_d (dirs_f k) (floats_for k) f f' _ nan p (omega arith) (omega arith) in
      rw (a, b)

  pub tie_kept : (i : ℕ) → i < k.samples → part (samples_w k) (order_w k) w' ≡ part (samples_w k) (order_w k) w → tie_at k w' i ≡ tie_at k w i
  unfolding tie_at
  tie_kept i h q = ap (λ (m : ℕ). eqb m 2) (part_get_d (samples_w k) (order_w k) w w' (samples_w k + 4 * i + 2) 0 q (omega arith) (omega arith))

  -- ---- the first n of each list

  pub edges_kept : (n : ℕ) → n ≤ k.edges → part 0 (events_f k) f' ≡ part 0 (events_f k) f → part (edges_w k) (nearest_w k) w' ≡ part (edges_w k) (nearest_w k) w
      → edges_in k f' w' n ≡ edges_in k f w n
  edges_kept n h p q = listed_ext (edge_at k f' w') (edge_at k f w) n (λ i l. edge_kept i (omega arith) p q)

  pub events_kept : (n : ℕ) → n ≤ k.events → part (events_f k) (merged_f k) f' ≡ part (events_f k) (merged_f k) f → part (events_w k) (turns_w k) w' ≡ part (events_w k) (turns_w k) w
      → events_in k f' w' n ≡ events_in k f w n
  events_kept n h p q = listed_ext (event_at k f' w') (event_at k f w) n (λ i l. event_kept i (omega arith) p q)

  pub mergeds_kept : (n : ℕ) → n ≤ k.events → part (merged_f k) (samples_f k) f' ≡ part (merged_f k) (samples_f k) f → part (merged_w k) (corners_w k) w' ≡ part (merged_w k) (corners_w k) w
      → merged_in k f' w' n ≡ merged_in k f w n
  mergeds_kept n h p q = listed_ext (merged_at k f' w') (merged_at k f w) n (λ i l. merged_kept i (omega arith) p q)

  pub samples_kept : (n : ℕ) → n ≤ k.samples → part (samples_f k) (dirs_f k) f' ≡ part (samples_f k) (dirs_f k) f → part (samples_w k) (order_w k) w' ≡ part (samples_w k) (order_w k) w
      → samples_in k f' w' n ≡ samples_in k f w n
  samples_kept n h p q = listed_ext (sample_at k f' w') (sample_at k f w) n (λ i l. sample_kept i (omega arith) p q)

-- ---- what is not too short is long enough

pub short_fit : (k : Rooms) (floats words : ℕ) → is_short k floats words ≡ false → Fit k floats words
short_fit k floats words e =
    let n = neither (ltb floats (floats_for k)) (ltb words (words_for k)) e in
    record { floats_fit = ltb-false floats (floats_for k) n.0; words_fit = ltb-false words (words_for k) n.1 }
