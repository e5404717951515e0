-- The open event is closed: its corners are sorted where they stand, and it is written behind the closed ones.
-- Assumes nothing.
use mathlib.Core.Path.{◌≡◌, refl, sym, ap, ◌∙◌}
use mathlib.Core.Logic.{inl, inr}
use mathlib.Core.List.{List}
use Prim.Native.Nat.{ℕ, suc, ◌+◌, ◌-◌, ◌≤◌, ◌<◌}
use native.Mathlib.Omega.{arith}
use lib.Dec.{ltb}
use lib.Ieee.{Float}
use lib.ListN.{length, take, drop, length-drop}
use lib.Seq.{length-take-le}
use Rattle.lists.specs.Parts.{part}
use Rattle.lists.proofs.Only.{only_trans, only_wider, only_part}
use Rattle.room.specs.declared.Rooms.{Rooms}
use Rattle.room.specs.declared.Merged.{Merged}
use Rattle.room.specs.Layout.{merged_w, corners_w, starts_w}
use Rattle.room.specs.Records.{merged_at, MergedPut}
use Rattle.room.proofs.Kept.{merged_kept}
use Rattle.sorts.specs.Sort.{sort}
use Rattle.sorts.specs.Fronts.{Ordered}
use Rattle.sorts.proofs.Merging.{length_sort}
use Rattle.events.specs.Spots.{Spot}
use Rattle.events.specs.Held.{end_at, spot_at, Closing, Closed}
use Rattle.events.specs.declared.Open.{Open}
use Rattle.events.proofs.Reading.{end_kept, spot_kept}

-- what is written of it
abbrev pub merged_of : Open → Merged
merged_of g = record { angle = g.angle; vertex = g.vertex; side = g.side; end = g.corners }

same_list : (m : Merged) (g : Open) (l l' : List ℕ) → m ≡ merged_of g → l ≡ l'
    → ◌≡◌ {A = Spot} (record { angle = m.angle; vertex = m.vertex; side = m.side; extras = l }) (record { angle = g.angle; vertex = g.vertex; side = g.side; extras = l' })
same_list m g l l' e q = rw (e, q)

module _ (k : Rooms) (g : Open) (f f' : List Float) (w w1 w' : List ℕ) (c : Closing k f w g)
    (o : Ordered (sort ltb (part (corners_w k + g.first) (corners_w k + g.corners) w)) (corners_w k + g.first) (starts_w k) w w1)
    (p : MergedPut k g.spots (merged_of g) f w1 f' w') where
  merged_same : (i : ℕ) → i < g.spots → merged_at k f' w' i ≡ merged_at k f w i
  merged_same i h =
      p.entry.others i (omega (arith, c.free)) (λ e. omega arith)
      ∙ merged_kept k f f w w1 i (omega (arith, c.free)) refl (only_part (merged_w k) (corners_w k) o.only (inl (omega arith)))

  corners_same : (x y : ℕ) → corners_w k ≤ x → part x y w' ≡ part x y w1
  corners_same x y h = only_part x y p.words (inr h)

  part_same : (x y : ℕ) → corners_w k ≤ x → y ≤ corners_w k + g.first → part x y w' ≡ part x y w
  part_same x y h l = corners_same x y h ∙ only_part x y o.only (inl l)

  group : part (corners_w k + g.first) (corners_w k + g.corners) w1 ≡ sort ltb (part (corners_w k + g.first) (corners_w k + g.corners) w)
  group =
      let a = corners_w k + g.first in
      let n = (corners_w k + g.corners) - a in
      let r : g.corners ≤ k.corners = c.stands.room in
      let h : n ≤ length (drop a w) = simp length-drop (omega (arith, c.fit.words_fit)) in
      let l : length (sort ltb (part a (corners_w k + g.corners) w)) ≡ n = length_sort ltb (part a (corners_w k + g.corners) w) ∙ length-take-le n (drop a w) h in
      ap (λ (q : ℕ). take q (drop a w1)) (sym l) ∙ o.list

  pub closing : Closed k g f w f' w'
  unfolding spot_at
  closing = record {
    spot =
        same_list (merged_at k f' w' g.spots) g _ _ p.entry.here
        (ap (λ (x : ℕ). part (corners_w k + x) (corners_w k + end_at k f' w' (suc g.spots)) w') (ends g.spots (omega arith) ∙ c.stands.last)
        ∙ ap (λ (x : ℕ). part (corners_w k + g.first) (corners_w k + x) w') (ap (λ (m : Merged). m.end) p.entry.here)
        ∙ corners_same (corners_w k + g.first) (corners_w k + g.corners) (omega arith)
        ∙ group);
    before = spot_kept k f f' w w' g.spots g.first c.stands.ends merged_same part_same;
    ends = ends;
    last = ap (λ (m : Merged). m.end) p.entry.here;
    frame = record {
      floats = p.floats;
      words = only_trans (only_wider (merged_w k) (starts_w k) (omega arith) (omega arith) o.only) (only_wider (merged_w k) (starts_w k) (omega arith) (omega arith) p.words);
    };
  }
    where
      ends : (i : ℕ) → i ≤ g.spots → end_at k f' w' i ≡ end_at k f w i
      ends = end_kept k f f' w w' g.spots g.first c.stands.ends merged_same part_same

-- as the code has it: the stretch's ends are numbers that were worked out
pub closing_at : (k : Rooms) (g : Open) (f f' : List Float) (w w1 w' : List ℕ) (a n e : ℕ) → Closing k f w g → a ≡ corners_w k + g.first → n ≡ g.corners - g.first → e ≡ starts_w k
    → Ordered (sort ltb (part a (a + n) w)) a e w w1 → MergedPut k g.spots (merged_of g) f w1 f' w' → Closed k g f w f' w'
closing_at k g f f' w w1 w' a n e c ea en ee o p =
    let h : g.first ≤ g.corners = c.stands.within in
    let s : a + n ≡ corners_w k + g.corners = omega arith in
    closing k g f f' w w1 w' c (rw (s, ea, ee) at o) p
