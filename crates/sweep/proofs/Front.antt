-- What the walk reads of the words stands in front of the stretch of the corners seen: it is the same read from that front and from the whole. For who
-- calls `sweep`, and knows the whole. Assumes nothing.
use Rattle.std.proofs.Common.{◌≡◌, ℕ, zero, suc, ◌+◌, ◌-◌, ◌<◌, ◌≤◌, cond, not, eqb, List, [], ◌∷◌, map, length, get_or, sym, refl, ap, ◌∙◌, subst, ⊎_elim, le_refl, arith}
use lib.Ieee.{Float}
use borrow.Rule.Slice.PartMut.{mid_len}
use Rattle.num.specs.Ops.{◌⊕◌}
use Rattle.lists.specs.Lists.{counting, cons_if, listed}
use Rattle.lists.specs.Parts.{part}
use Rattle.lists.specs.Members.{All}
use Rattle.lists.proofs.Cases.{lt_or_le}
use Rattle.lists.proofs.Parts.{part_first, part_take, part_none, part_here}
use Rattle.lists.proofs.Only.{part_get_d}
use Rattle.lists.proofs.Joined.{listed_ext}
use Rattle.geom.specs.Vec.{from_angle_of}
use Rattle.room.specs.declared.Rooms.{Rooms}
use Rattle.room.specs.declared.Sample.{Sample}
use Rattle.room.specs.Layout.{edges_w, nearest_w, merged_w, corners_w, starts_w, samples_w, order_w, seen_w}
use Rattle.room.specs.declared.Merged.{Merged}
use Rattle.room.specs.Records.{merged_at, sample_at, dir_at, ray_at, tie_at, Noted}
use Rattle.room.proofs.Kept.{merged_kept, sample_kept, tie_kept}
use Rattle.index.specs.declared.AngularIndex.{AngularIndex}
use Rattle.index.specs.Stands.{index_in, Within}
use Rattle.index.proofs.Kept.{index_kept}
use Rattle.sorts.specs.Sort.{dedup}
use Rattle.refining.specs.Refine.{Run}
use Rattle.seen.specs.Seen.{corner_at, first_corner, corners_of}
use Rattle.std.specs.Prelude.{Option, Some, None}
use Rattle.sweep.specs.Sweep.{sample_in, next_of, Course, between_of, visit_of, walk_of, sweep_of}

module _ (k : Rooms) (words : List ℕ) where
  pub front_part : (a e : ℕ) → e ≤ seen_w k → part a e (part 0 (seen_w k) words) ≡ part a e words
  front_part a e h = ap (part a e) (part_first (seen_w k) words) ∙ part_take a e (seen_w k) words h

  pub front_at : (i : ℕ) → i < seen_w k → get_or (part 0 (seen_w k) words) i 0 ≡ get_or words i 0
  front_at i h = part_get_d 0 (seen_w k) words (part 0 (seen_w k) words) i 0 (front_part 0 (seen_w k) (le_refl (seen_w k))) (omega arith) h

  -- the index
  pub index_front : (floats : List Float) (x : AngularIndex) → Within k words x → index_in k floats (part 0 (seen_w k) words) x ≡ index_in k floats words x
  index_front floats x sound =
      index_kept k floats floats words (part 0 (seen_w k) words) x sound refl (front_part (edges_w k) (nearest_w k) (omega arith)) (front_part (starts_w k) (samples_w k) (omega arith))

  -- the samples and their directions, where the order names samples of the room
  module _ (floats : List Float) (n : ℕ) (h : n ≤ k.samples) (below : (i : ℕ) → i < n → get_or words (order_w k + i) 0 < k.samples) where
    one_front : (i : ℕ) → i < n → sample_at k floats (part 0 (seen_w k) words) (get_or (part 0 (seen_w k) words) (order_w k + i) 0) ≡ sample_at k floats words (get_or words (order_w k + i) 0)
    one_front i m =
        ap (sample_at k floats (part 0 (seen_w k) words)) (front_at (order_w k + i) (omega arith))
        ∙ sample_kept k floats floats words (part 0 (seen_w k) words) (get_or words (order_w k + i) 0) (below i m) refl (front_part (samples_w k) (order_w k) (omega arith))

    pub samples_front : listed (sample_in k floats (part 0 (seen_w k) words)) n ≡ listed (sample_in k floats words) n
    unfolding sample_in
    samples_front = listed_ext (sample_in k floats (part 0 (seen_w k) words)) (sample_in k floats words) n one_front

    tie_front : (i : ℕ) → i < n → tie_at k (part 0 (seen_w k) words) (get_or (part 0 (seen_w k) words) (order_w k + i) 0) ≡ tie_at k words (get_or words (order_w k + i) 0)
    tie_front i m =
        ap (tie_at k (part 0 (seen_w k) words)) (front_at (order_w k + i) (omega arith))
        ∙ tie_kept k floats floats words (part 0 (seen_w k) words) (get_or words (order_w k + i) 0) (below i m) (front_part (samples_w k) (order_w k) (omega arith))

    -- what holds of a sample may be put in other words
    pub noted_front : (start : Float) (P Q : Sample → Type 0) → ((a : Sample) → P a → Q a) → Noted k start P floats words n → Noted k start Q floats (part 0 (seen_w k) words) n
    noted_front start P Q f d i m = (
      ap (dir_at k floats) (front_at (order_w k + i) (omega arith)) ∙ (d i m).0 ∙ ap (λ (q : Sample). from_angle_of (start ⊕ q.angle)) (sym (one_front i m)),
      λ z. subst Q (sym (one_front i m)) (f (ray_at k floats words i) ((d i m).1 (sym (tie_front i m) ∙ z))),
    )

-- ---- the corners count only at the events of the samples
abbrev pub with_corners : Course → (ℕ → List ℕ) → Course
with_corners c corners = record { env = c.env; step = c.step; seen = c.seen; corners = corners }

module _ (c : Course) (corners : ℕ → List ℕ) where
  same_between : (a b : Sample) (s : Run) → c.corners a.event ≡ corners a.event → between_of c a b s ≡ between_of (with_corners c corners) a b s
  unfolding between_of
  same_between a b s e = rw e

  same_visit : (a : Sample) (n : Option Sample) (s : Run) → c.corners a.event ≡ corners a.event → visit_of c a n s ≡ visit_of (with_corners c corners) a n s
  unfolding visit_of
  same_visit a (Some b) s e = same_between a b _ e
  same_visit a None s e = refl

  same_walk : (first : Sample) (l : List Sample) (s : Run) → All (λ a. c.corners a.event ≡ corners a.event) l → walk_of c first l s ≡ walk_of (with_corners c corners) first l s
  unfolding walk_of
  same_walk first [] s h = refl
  same_walk first (a ∷ l) s h =
      ap (walk_of c first l) (same_visit a (next_of c.env.view.full first l) s h.0)
      ∙ same_walk first l (visit_of (with_corners c corners) a (next_of c.env.view.full first l) s) h.1

  pub same_corners : (l : List Sample) (s : Run) → All (λ a. c.corners a.event ≡ corners a.event) l → sweep_of c l s ≡ sweep_of (with_corners c corners) l s
  unfolding sweep_of
  same_corners [] s h = refl
  same_corners (a ∷ l) s h = same_walk a (a ∷ l) s h

-- ---- the corners of an event, as the merging of events leaves them: a part of the kept-aside corners
numbered : (l : List ℕ) (c lo n : ℕ) → c + lo + n ≤ length l → map (λ j. get_or l (c + j) 0) (counting lo n) ≡ part (c + lo) (c + lo + n) l
numbered l c lo zero h = sym (part_none (c + lo) (c + lo + zero) l (omega arith))
numbered l c lo (suc n) h =
    let e : c + suc lo ≡ c + lo + 1 = omega arith in
    let z : c + suc lo + n ≡ c + lo + suc n = omega arith in
    let ih : map (λ j. get_or l (c + j) 0) (counting (suc lo) n) ≡ part (c + suc lo) (c + suc lo + n) l = numbered l c (suc lo) n (omega arith) in
    ap (λ (q : List ℕ). get_or l (c + lo) 0 ∷ q)
    (ih ∙ ap (λ (m : ℕ). part m (c + suc lo + n) l) e ∙ ap (λ (m : ℕ). part (c + lo + 1) m l) z)
    ∙ sym (part_here (c + lo) (c + lo + suc n) l 0 (omega arith) h)

-- those from lo up to hi
map_part : (l : List ℕ) (c lo hi : ℕ) → c + hi ≤ length l → map (λ j. get_or l (c + j) 0) (counting lo (hi - lo)) ≡ part (c + lo) (c + hi) l
map_part l c lo hi h = ⊎_elim below above (lt_or_le lo hi)
  where
    below : lo < hi → map (λ j. get_or l (c + j) 0) (counting lo (hi - lo)) ≡ part (c + lo) (c + hi) l
    below m =
        let e : c + lo + (hi - lo) ≡ c + hi = omega arith in
        numbered l c lo (hi - lo) (omega arith) ∙ ap (λ (q : ℕ). part (c + lo) q l) e

    above : hi ≤ lo → map (λ j. get_or l (c + j) 0) (counting lo (hi - lo)) ≡ part (c + lo) (c + hi) l
    above m =
        let e : hi - lo ≡ 0 = omega arith in
        ap (λ (q : ℕ). map (λ j. get_or l (c + j) 0) (counting lo q)) e ∙ sym (part_none (c + lo) (c + hi) l (omega arith))

module _ (k : Rooms) (floats : List Float) (words : List ℕ) (event : ℕ) (he : event < k.events) where
  merged_front : (i : ℕ) → i < k.events → merged_at k floats (part 0 (seen_w k) words) i ≡ merged_at k floats words i
  merged_front i h = merged_kept k floats floats words (part 0 (seen_w k) words) i h refl (front_part k words (merged_w k) (corners_w k) (omega arith))

  first_front : first_corner k floats (part 0 (seen_w k) words) event ≡ first_corner k floats words event
  unfolding first_corner
  first_front = ap (λ (m : Merged). cond (eqb event 0) 0 m.end) (merged_front (event - 1) (omega arith))

  pub corners_front : seen_w k ≤ length words → (merged_at k floats words event).end ≤ k.corners
      → corners_of k floats (part 0 (seen_w k) words) event
      ≡ cons_if (not (eqb (merged_at k floats words event).vertex 4294967295)) (merged_at k floats words event).vertex
      (dedup (part (corners_w k + first_corner k floats words event) (corners_w k + (merged_at k floats words event).end) words))
  unfolding corners_of
  corners_front long held =
      let m = merged_at k floats words event in
      let lo = first_corner k floats words event in
      let whole : length (part 0 (seen_w k) words) ≡ seen_w k = mid_len 0 (seen_w k) words long ∙ omega arith in
      let fits : corners_w k + m.end ≤ length (part 0 (seen_w k) words) = omega (arith, whole) in
      ap (λ (q : Merged). cons_if (not (eqb q.vertex 4294967295)) q.vertex (dedup (map (corner_at k (part 0 (seen_w k) words)) (counting (first_corner k floats (part 0 (seen_w k) words) event) (q.end - first_corner k floats (part 0 (seen_w k) words) event)))))
      (merged_front event he)
      ∙ ap (λ (q : ℕ). cons_if (not (eqb m.vertex 4294967295)) m.vertex (dedup (map (corner_at k (part 0 (seen_w k) words)) (counting q (m.end - q))))) first_front
      ∙ ap (λ (q : List ℕ). cons_if (not (eqb m.vertex 4294967295)) m.vertex (dedup q))
      (map_part (part 0 (seen_w k) words) (corners_w k) lo m.end fits ∙ front_part k words (corners_w k + lo) (corners_w k + m.end) (omega arith))
