-- What the room holds of the events stays where its stretches stay.
-- Assumes nothing.
use mathlib.Core.Path.{◌≡◌, refl, sym, ap, ◌∙◌}
use mathlib.Core.Logic.{inl, ⊎_elim}
use mathlib.Core.List.{List, ◌∷◌}
use Prim.Native.Nat.{ℕ, zero, suc, ◌+◌, ◌-◌, ◌≤◌, ◌<◌}
use native.Mathlib.Omega.{arith}
use lib.Ieee.{Float}
use lib.ListN.{get_or, set, drop}
use Rattle.lists.specs.Lists.{listed}
use Rattle.lists.specs.Parts.{part, Only}
use Rattle.lists.proofs.Joined.{length_listed, get_d_listed, listed_ext}
use Rattle.lists.proofs.Only.{only_refl, only_trans, only_set, only_get_d, only_part}
use Rattle.lists.proofs.Parts.{drop_here, part_none, part_part}
use Rattle.lists.proofs.Cases.{lt_or_le}
use Rattle.room.specs.declared.Rooms.{Rooms}
use Rattle.room.specs.declared.Merged.{Merged}
use Rattle.room.specs.Layout.{events_f, merged_f, samples_f, events_w, turns_w, merged_w, corners_w, starts_w}
use Rattle.room.specs.Records.{event_at, merged_at}
use Rattle.room.proofs.Kept.{event_kept, merged_kept}
use Rattle.events.specs.Spots.{Spot}
use Rattle.events.specs.Held.{turn_at, end_at, spot_at, spots_in, Stands, Frame, EndsBelow}
use Rattle.events.specs.declared.Open.{Open}

-- ---- frames

pub frame_refl : (k : Rooms) (f : List Float) (w : List ℕ) → Frame k f w f w
frame_refl k f w = record { floats = only_refl (merged_f k) (samples_f k) f; words = only_refl (merged_w k) (starts_w k) w }

pub frame_trans : {k : Rooms} {f f' f'' : List Float} {w w' w'' : List ℕ} → Frame k f w f' w' → Frame k f' w' f'' w'' → Frame k f w f'' w''
frame_trans p q = record { floats = only_trans p.floats q.floats; words = only_trans p.words q.words }

-- a corner more
pub frame_corner : (k : Rooms) (f : List Float) (w : List ℕ) (i v : ℕ) → i < k.corners → {w' : List ℕ} → w' ≡ set w (corners_w k + i) v → Frame k f w f w'
frame_corner k f w i v h e = record { floats = only_refl (merged_f k) (samples_f k) f; words = rw e (only_set (merged_w k) (starts_w k) w (corners_w k + i) v (omega arith) (omega arith)) }

-- ---- the events in order

pub turn_kept : (k : Rooms) (f f' : List Float) (w w' : List ℕ) (t : ℕ) → Frame k f w f' w' → t < k.events → get_or w (turns_w k + t) 0 < k.events → turn_at k f' w' t ≡ turn_at k f w t
turn_kept k f f' w w' t p h b =
    let e : get_or w' (turns_w k + t) 0 ≡ get_or w (turns_w k + t) 0 = only_get_d (turns_w k + t) 0 p.words (inl (omega arith)) in
    ap (event_at k f' w') e
    ∙ event_kept k f f' w w' (get_or w (turns_w k + t) 0) b (only_part (events_f k) (merged_f k) p.floats (inl (omega arith))) (only_part (events_w k) (turns_w k) p.words (inl (omega arith)))

-- one more of them is taken
pub listed_here : {A : Type 0} (F : ℕ → A) (m t : ℕ) → t < m → drop t (listed F m) ≡ F t ∷ drop (t + 1) (listed F m)
listed_here F m t h =
    drop_here (listed F m) t (F 0) (omega (arith, length_listed F m)) ∙ ap (λ x. x ∷ drop (t + 1) (listed F m)) (get_d_listed F m t (F 0) h)

-- ---- the merged events

same_spot : (m m' : Merged) (l l' : List ℕ) → m ≡ m' → l ≡ l'
    → ◌≡◌ {A = Spot} (record { angle = m.angle; vertex = m.vertex; side = m.side; extras = l }) (record { angle = m'.angle; vertex = m'.vertex; side = m'.side; extras = l' })
same_spot m m' l l' e q = rw (e, q)

-- the first n, whose corners end at c at most
module _ (k : Rooms) (f f' : List Float) (w w' : List ℕ) (n c : ℕ) (be : (i : ℕ) → i ≤ n → end_at k f w i ≤ c)
    (hm : (i : ℕ) → i < n → merged_at k f' w' i ≡ merged_at k f w i)
    (hp : (x y : ℕ) → corners_w k ≤ x → y ≤ corners_w k + c → part x y w' ≡ part x y w) where
  pub end_kept : (i : ℕ) → i ≤ n → end_at k f' w' i ≡ end_at k f w i
  end_kept zero h = refl
  end_kept (suc i) h = ap (λ (m : Merged). m.end) (hm i (omega arith))

  pub spot_kept : (i : ℕ) → i < n → spot_at k f' w' i ≡ spot_at k f w i
  unfolding spot_at
  spot_kept i h =
      let a : end_at k f' w' i ≡ end_at k f w i = end_kept i (omega arith) in
      let b : end_at k f' w' (suc i) ≡ end_at k f w (suc i) = end_kept (suc i) (omega arith) in
      let d : end_at k f w (suc i) ≤ c = be (suc i) (omega arith) in
      same_spot (merged_at k f' w' i) (merged_at k f w i) _ _ (hm i h)
      (ap (λ (x : ℕ). part (corners_w k + x) (corners_w k + end_at k f' w' (suc i)) w') a
      ∙ ap (λ (x : ℕ). part (corners_w k + end_at k f w i) (corners_w k + x) w') b
      ∙ hp (corners_w k + end_at k f w i) (corners_w k + end_at k f w (suc i)) (omega arith) (omega arith))

-- a corner more of the open event leaves the closed ones
module _ (k : Rooms) (f : List Float) (w w' : List ℕ) (g : Open) (s : Stands k f w g) (a b : ℕ) (ha : corners_w k + g.first ≤ a) (o : Only a b w w') (n : g.spots < k.events) where
  merged_same : (i : ℕ) → i < g.spots → merged_at k f w' i ≡ merged_at k f w i
  merged_same i h = merged_kept k f f w w' i (omega arith) refl (only_part (merged_w k) (corners_w k) o (inl (omega arith)))

  part_same : (x y : ℕ) → corners_w k ≤ x → y ≤ corners_w k + g.first → part x y w' ≡ part x y w
  part_same x y h l = only_part x y o (inl (omega arith))

  pub ends_stay : (i : ℕ) → i ≤ g.spots → end_at k f w' i ≡ end_at k f w i
  ends_stay = end_kept k f f w w' g.spots g.first s.ends merged_same part_same

  pub spots_stay : spots_in k f w' g.spots ≡ spots_in k f w g.spots
  spots_stay = listed_ext (spot_at k f w') (spot_at k f w) g.spots (spot_kept k f f w w' g.spots g.first s.ends merged_same part_same)

-- ---- what a later stage writes leaves them: their stretches are as they were

part_inside : (a e : ℕ) (l m : List ℕ) (x y : ℕ) → part a e m ≡ part a e l → a ≤ x → y ≤ e → part x y m ≡ part x y l
part_inside a e l m x y p h k = ⊎_elim some none (lt_or_le x y)
  where
    none : y ≤ x → part x y m ≡ part x y l
    none q = part_none x y m q ∙ sym (part_none x y l q)

    some : x < y → part x y m ≡ part x y l
    some q =
        let u : a + (x - a) ≡ x = omega arith in
        let v : a + (y - a) ≡ y = omega arith in
        let r : y - a ≤ e - a = omega arith in
        let w : (z : List ℕ) → part (x - a) (y - a) (part a e z) ≡ part x y z = λ z. part_part a e (x - a) (y - a) z r ∙ ap (λ (j : ℕ). part j (a + (y - a)) z) u ∙ ap (λ (j : ℕ). part x j z) v in
        sym (w m) ∙ ap (part (x - a) (y - a)) p ∙ w l

module _ (k : Rooms) (f f' : List Float) (w w' : List ℕ) (n : ℕ) (h : n ≤ k.events) (b : EndsBelow k f w n) (p : part (merged_f k) (samples_f k) f' ≡ part (merged_f k) (samples_f k) f)
    (q : part (merged_w k) (starts_w k) w' ≡ part (merged_w k) (starts_w k) w) where
  as_merged : (i : ℕ) → i < n → merged_at k f' w' i ≡ merged_at k f w i
  as_merged i l = merged_kept k f f' w w' i (omega arith) p (part_inside (merged_w k) (starts_w k) w w' (merged_w k) (corners_w k) q (omega arith) (omega arith))

  as_parts : (x y : ℕ) → corners_w k ≤ x → y ≤ corners_w k + k.corners → part x y w' ≡ part x y w
  as_parts x y l m = part_inside (merged_w k) (starts_w k) w w' x y q (omega arith) (omega arith)

  pub spots_kept : spots_in k f' w' n ≡ spots_in k f w n
  spots_kept = listed_ext (spot_at k f' w') (spot_at k f w) n (spot_kept k f f' w w' n k.corners b as_merged as_parts)

  pub ends_kept : EndsBelow k f' w' n
  ends_kept i l = omega (arith, end_kept k f f' w w' n k.corners b as_merged as_parts i l, b i l)
