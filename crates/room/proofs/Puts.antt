-- What the writes of the room do, over plain lists: the entry is the record written, the other entries stay, and nothing but the list's own
-- stretches is written. Assumes nothing.
use Rattle.std.proofs.Common.{None, Option, Some}
use mathlib.Core.Path.{◌≡◌, refl, ap, ◌∙◌}
use mathlib.Core.Logic.{◌⊎◌, inl, inr, ⊎_elim}
use mathlib.Core.Bool.{Bool, true, false}
use mathlib.Core.List.{List, [], ◌∷◌}
use Prim.Native.Nat.{ℕ, ◌+◌, ◌-◌, ◌*◌, ◌≤◌, ◌<◌}
use native.Mathlib.Omega.{arith}
use lib.ListN.{length, get_or, set}
use lib.Dec.{eqb}
use borrow.Rule.Slice.PartMut.{put_mid}
use lib.Ieee.{Float, nan}
use Rattle.lists.specs.Lists.{bit}
use Rattle.lists.specs.Parts.{part}
use Rattle.lists.proofs.Cases.{lt_or_le}
use Rattle.lists.proofs.Only.{Laid, laid_put, laid_set, only_trans, only_wider, only_get_d}
use Rattle.geom.specs.declared.Vec2.{Vec2}
use Rattle.room.specs.declared.Rooms.{Rooms}
use Rattle.room.specs.declared.LocalEdge.{LocalEdge}
use Rattle.room.specs.declared.Event.{Event}
use Rattle.room.specs.declared.Merged.{Merged}
use Rattle.room.specs.declared.Sample.{Sample}
use Rattle.room.specs.Layout.{edges_f, events_f, merged_f, samples_f, distances_f, dirs_f, floats_for, edges_w, nearest_w, events_w, turns_w, merged_w, corners_w, samples_w, order_w}
use Rattle.room.specs.Records.{six_of, tag_of, distance_of, number_of, cast_from, tie_of, edge_at, event_at, merged_at, sample_at, tie_at, dir_at, with_hit, EdgePut, EventPut, MergedPut, SamplePut, HitPut, DirPut}
use Rattle.site.specs.declared.RayHit.{RayHit}

-- a number and another one: below it or past it
apart : (j i : ℕ) → (j ≡ i → ⊥) → (j < i) ⊎ (i < j)
apart j i n = ⊎_elim inl (λ h. ⊎_elim inr (λ k. absurd (n (omega arith))) (lt_or_le i j)) (lt_or_le j i)

bit_back : (b : Bool) → eqb (bit b) 1 ≡ b
bit_back true = refl
bit_back false = refl

cast_back : (h : Option RayHit) (tied : Bool) → cast_from (tag_of h tied) (distance_of h) (number_of h) ≡ h
cast_back (Some h) true = refl
cast_back (Some h) false = refl
cast_back None tied = refl

tie_back : (h : Option RayHit) (tied : Bool) → eqb (tag_of h tied) 2 ≡ tie_of h tied
tie_back (Some h) true = refl
tie_back (Some h) false = refl
tie_back None tied = refl

-- a number stored in a part that was lent, and a part that was lent and came back as a list
module _ {A : Type 0} (l v : List A) where
  pub cell_laid : (p a b n : ℕ) (x : A) → v ≡ set (part a b l) n x → p ≡ a + n → b ≤ length l → n < b - a → Laid p 1 (x ∷ []) l (put_mid a (b - a) l v)
  cell_laid p a b n x e g h r = rw (e, g) (laid_set a b l n x h r)

  pub row_laid : (p a b n : ℕ) (xs : List A) → v ≡ xs → p ≡ a → b ≡ a + n → b ≤ length l → length xs ≡ n → Laid p n xs l (put_mid a (b - a) l v)
  row_laid p a b n xs e g f h r = rw (e, g) (laid_put a b n l xs f h r)

module _ (k : Rooms) (i : ℕ) (f : List Float) (w : List ℕ) where
  -- ---- an edge: how near it is, its own six numbers, and its number in the site

  module _ (e : LocalEdge) (f₁ f' : List Float) (w' : List ℕ) (h : i < k.edges) (p : Laid i 1 (e.near ∷ []) f f₁) (q : Laid (edges_f k + 6 * i) 6 (six_of e) f₁ f') (r : Laid (edges_w k + i) 1 (e.edge ∷ []) w w') where
    edge_here : edge_at k f' w' i ≡ e
    unfolding edge_at
    edge_here =
        let a : get_or f' (edges_f k + 6 * i) nan ≡ e.a.x = q.at 0 (edges_f k + 6 * i) nan (omega arith) (omega arith) in
        let b : get_or f' (edges_f k + 6 * i + 1) nan ≡ e.a.y = q.at 1 (edges_f k + 6 * i + 1) nan (omega arith) (omega arith) in
        let c : get_or f' (edges_f k + 6 * i + 2) nan ≡ e.b.x = q.at 2 (edges_f k + 6 * i + 2) nan (omega arith) (omega arith) in
        let d : get_or f' (edges_f k + 6 * i + 3) nan ≡ e.b.y = q.at 3 (edges_f k + 6 * i + 3) nan (omega arith) (omega arith) in
        let s : get_or f' (edges_f k + 6 * i + 4) nan ≡ e.span_start = q.at 4 (edges_f k + 6 * i + 4) nan (omega arith) (omega arith) in
        let t : get_or f' (edges_f k + 6 * i + 5) nan ≡ e.span_len = q.at 5 (edges_f k + 6 * i + 5) nan (omega arith) (omega arith) in
        let m : get_or f' i nan ≡ e.near = only_get_d i nan q.only (inl (omega arith)) ∙ p.at 0 i nan (omega arith) (omega arith) in
        let u : get_or w' (edges_w k + i) 0 ≡ e.edge = r.at 0 (edges_w k + i) 0 (omega arith) (omega arith) in
        rw (a, b, c, d, s, t, m, u)

    edge_others : (j : ℕ) → j < k.edges → (j < i) ⊎ (i < j) → edge_at k f' w' j ≡ edge_at k f w j
    unfolding edge_at
    edge_others j g n =
        let a : get_or f' (edges_f k + 6 * j) nan ≡ get_or f (edges_f k + 6 * j) nan = only_get_d (edges_f k + 6 * j) nan q.only (⊎_elim (λ l. inl (omega arith)) (λ l. inr (omega arith)) n) ∙ only_get_d (edges_f k + 6 * j) nan p.only (inr (omega arith)) in
        let b : get_or f' (edges_f k + 6 * j + 1) nan ≡ get_or f (edges_f k + 6 * j + 1) nan = only_get_d (edges_f k + 6 * j + 1) nan q.only (⊎_elim (λ l. inl (omega arith)) (λ l. inr (omega arith)) n) ∙ only_get_d (edges_f k + 6 * j + 1) nan p.only (inr (omega arith)) in
        let c : get_or f' (edges_f k + 6 * j + 2) nan ≡ get_or f (edges_f k + 6 * j + 2) nan = only_get_d (edges_f k + 6 * j + 2) nan q.only (⊎_elim (λ l. inl (omega arith)) (λ l. inr (omega arith)) n) ∙ only_get_d (edges_f k + 6 * j + 2) nan p.only (inr (omega arith)) in
        let d : get_or f' (edges_f k + 6 * j + 3) nan ≡ get_or f (edges_f k + 6 * j + 3) nan = only_get_d (edges_f k + 6 * j + 3) nan q.only (⊎_elim (λ l. inl (omega arith)) (λ l. inr (omega arith)) n) ∙ only_get_d (edges_f k + 6 * j + 3) nan p.only (inr (omega arith)) in
        let s : get_or f' (edges_f k + 6 * j + 4) nan ≡ get_or f (edges_f k + 6 * j + 4) nan = only_get_d (edges_f k + 6 * j + 4) nan q.only (⊎_elim (λ l. inl (omega arith)) (λ l. inr (omega arith)) n) ∙ only_get_d (edges_f k + 6 * j + 4) nan p.only (inr (omega arith)) in
        let t : get_or f' (edges_f k + 6 * j + 5) nan ≡ get_or f (edges_f k + 6 * j + 5) nan = only_get_d (edges_f k + 6 * j + 5) nan q.only (⊎_elim (λ l. inl (omega arith)) (λ l. inr (omega arith)) n) ∙ only_get_d (edges_f k + 6 * j + 5) nan p.only (inr (omega arith)) in
        let m : get_or f' j nan ≡ get_or f j nan = only_get_d j nan q.only (inl (omega arith)) ∙ only_get_d j nan p.only (⊎_elim (λ l. inl (omega arith)) (λ l. inr (omega arith)) n) in
        let u : get_or w' (edges_w k + j) 0 ≡ get_or w (edges_w k + j) 0 = only_get_d (edges_w k + j) 0 r.only (⊎_elim (λ l. inl (omega arith)) (λ l. inr (omega arith)) n) in
        rw (a, b, c, d, s, t, m, u)

    pub edge_put : EdgePut k i e f w f' w'
    edge_put =
        record {
          entry = record { here = edge_here; others = λ j g n. edge_others j g (apart j i n) };
          floats = only_trans (only_wider 0 (events_f k) (omega arith) (omega arith) p.only) (only_wider 0 (events_f k) (omega arith) (omega arith) q.only);
          words = only_wider (edges_w k) (nearest_w k) (omega arith) (omega arith) r.only;
        }

  -- ---- an event: its angle, and its vertex and side

  module _ (e : Event) (f' : List Float) (w' : List ℕ) (h : i < k.events) (p : Laid (events_f k + i) 1 (e.angle ∷ []) f f') (q : Laid (events_w k + 2 * i) 2 (e.vertex ∷ bit e.side ∷ []) w w') where
    event_here : event_at k f' w' i ≡ e
    unfolding event_at
    event_here =
        let a : get_or f' (events_f k + i) nan ≡ e.angle = p.at 0 (events_f k + i) nan (omega arith) (omega arith) in
        let b : get_or w' (events_w k + 2 * i) 0 ≡ e.vertex = q.at 0 (events_w k + 2 * i) 0 (omega arith) (omega arith) in
        let c : get_or w' (events_w k + 2 * i + 1) 0 ≡ bit e.side = q.at 1 (events_w k + 2 * i + 1) 0 (omega arith) (omega arith) in
        rw (a, b, c, bit_back)

    event_others : (j : ℕ) → j < k.events → (j < i) ⊎ (i < j) → event_at k f' w' j ≡ event_at k f w j
    unfolding event_at
    event_others j g n =
        let a : get_or f' (events_f k + j) nan ≡ get_or f (events_f k + j) nan = only_get_d (events_f k + j) nan p.only (⊎_elim (λ l. inl (omega arith)) (λ l. inr (omega arith)) n) in
        let b : get_or w' (events_w k + 2 * j) 0 ≡ get_or w (events_w k + 2 * j) 0 = only_get_d (events_w k + 2 * j) 0 q.only (⊎_elim (λ l. inl (omega arith)) (λ l. inr (omega arith)) n) in
        let c : get_or w' (events_w k + 2 * j + 1) 0 ≡ get_or w (events_w k + 2 * j + 1) 0 = only_get_d (events_w k + 2 * j + 1) 0 q.only (⊎_elim (λ l. inl (omega arith)) (λ l. inr (omega arith)) n) in
        rw (a, b, c)

    pub event_put : EventPut k i e f w f' w'
    event_put =
        record {
          entry = record { here = event_here; others = λ j g n. event_others j g (apart j i n) };
          floats = only_wider (events_f k) (merged_f k) (omega arith) (omega arith) p.only;
          words = only_wider (events_w k) (turns_w k) (omega arith) (omega arith) q.only;
        }

  -- ---- a merged event: its angle, and its vertex, side and end

  module _ (e : Merged) (f' : List Float) (w' : List ℕ) (h : i < k.events) (p : Laid (merged_f k + i) 1 (e.angle ∷ []) f f') (q : Laid (merged_w k + 3 * i) 3 (e.vertex ∷ bit e.side ∷ e.end ∷ []) w w') where
    merged_here : merged_at k f' w' i ≡ e
    unfolding merged_at
    merged_here =
        let a : get_or f' (merged_f k + i) nan ≡ e.angle = p.at 0 (merged_f k + i) nan (omega arith) (omega arith) in
        let b : get_or w' (merged_w k + 3 * i) 0 ≡ e.vertex = q.at 0 (merged_w k + 3 * i) 0 (omega arith) (omega arith) in
        let c : get_or w' (merged_w k + 3 * i + 1) 0 ≡ bit e.side = q.at 1 (merged_w k + 3 * i + 1) 0 (omega arith) (omega arith) in
        let d : get_or w' (merged_w k + 3 * i + 2) 0 ≡ e.end = q.at 2 (merged_w k + 3 * i + 2) 0 (omega arith) (omega arith) in
        rw (a, b, c, d, bit_back)

    merged_others : (j : ℕ) → j < k.events → (j < i) ⊎ (i < j) → merged_at k f' w' j ≡ merged_at k f w j
    unfolding merged_at
    merged_others j g n =
        let a : get_or f' (merged_f k + j) nan ≡ get_or f (merged_f k + j) nan = only_get_d (merged_f k + j) nan p.only (⊎_elim (λ l. inl (omega arith)) (λ l. inr (omega arith)) n) in
        let b : get_or w' (merged_w k + 3 * j) 0 ≡ get_or w (merged_w k + 3 * j) 0 = only_get_d (merged_w k + 3 * j) 0 q.only (⊎_elim (λ l. inl (omega arith)) (λ l. inr (omega arith)) n) in
        let c : get_or w' (merged_w k + 3 * j + 1) 0 ≡ get_or w (merged_w k + 3 * j + 1) 0 = only_get_d (merged_w k + 3 * j + 1) 0 q.only (⊎_elim (λ l. inl (omega arith)) (λ l. inr (omega arith)) n) in
        let d : get_or w' (merged_w k + 3 * j + 2) 0 ≡ get_or w (merged_w k + 3 * j + 2) 0 = only_get_d (merged_w k + 3 * j + 2) 0 q.only (⊎_elim (λ l. inl (omega arith)) (λ l. inr (omega arith)) n) in
        rw (a, b, c, d)

    pub merged_put : MergedPut k i e f w f' w'
    merged_put =
        record {
          entry = record { here = merged_here; others = λ j g n. merged_others j g (apart j i n) };
          floats = only_wider (merged_f k) (samples_f k) (omega arith) (omega arith) p.only;
          words = only_wider (merged_w k) (corners_w k) (omega arith) (omega arith) q.only;
        }

  -- ---- a sample: its angle, its distance, and its event, offset, tag and edge

  module _ (s : Sample) (f₁ f' : List Float) (w' : List ℕ) (h : i < k.samples) (p : Laid (samples_f k + i) 1 (s.angle ∷ []) f f₁) (q : Laid (distances_f k + i) 1 (distance_of s.hit ∷ []) f₁ f') (r : Laid (samples_w k + 4 * i) 4 (s.event ∷ s.offset ∷ tag_of s.hit false ∷ number_of s.hit ∷ []) w w') where
    sample_here : sample_at k f' w' i ≡ s
    unfolding sample_at
    sample_here =
        let a : get_or f' (samples_f k + i) nan ≡ s.angle = only_get_d (samples_f k + i) nan q.only (inl (omega arith)) ∙ p.at 0 (samples_f k + i) nan (omega arith) (omega arith) in
        let t : get_or f' (distances_f k + i) nan ≡ distance_of s.hit = q.at 0 (distances_f k + i) nan (omega arith) (omega arith) in
        let b : get_or w' (samples_w k + 4 * i) 0 ≡ s.event = r.at 0 (samples_w k + 4 * i) 0 (omega arith) (omega arith) in
        let c : get_or w' (samples_w k + 4 * i + 1) 0 ≡ s.offset = r.at 1 (samples_w k + 4 * i + 1) 0 (omega arith) (omega arith) in
        let d : get_or w' (samples_w k + 4 * i + 2) 0 ≡ tag_of s.hit false = r.at 2 (samples_w k + 4 * i + 2) 0 (omega arith) (omega arith) in
        let u : get_or w' (samples_w k + 4 * i + 3) 0 ≡ number_of s.hit = r.at 3 (samples_w k + 4 * i + 3) 0 (omega arith) (omega arith) in
        rw (a, t, b, c, d, u, cast_back)

    sample_others : (j : ℕ) → j < k.samples → (j < i) ⊎ (i < j) → sample_at k f' w' j ≡ sample_at k f w j
    unfolding sample_at
    sample_others j g n =
        let a : get_or f' (samples_f k + j) nan ≡ get_or f (samples_f k + j) nan = only_get_d (samples_f k + j) nan q.only (inl (omega arith)) ∙ only_get_d (samples_f k + j) nan p.only (⊎_elim (λ l. inl (omega arith)) (λ l. inr (omega arith)) n) in
        let t : get_or f' (distances_f k + j) nan ≡ get_or f (distances_f k + j) nan = only_get_d (distances_f k + j) nan q.only (⊎_elim (λ l. inl (omega arith)) (λ l. inr (omega arith)) n) ∙ only_get_d (distances_f k + j) nan p.only (inr (omega arith)) in
        let b : get_or w' (samples_w k + 4 * j) 0 ≡ get_or w (samples_w k + 4 * j) 0 = only_get_d (samples_w k + 4 * j) 0 r.only (⊎_elim (λ l. inl (omega arith)) (λ l. inr (omega arith)) n) in
        let c : get_or w' (samples_w k + 4 * j + 1) 0 ≡ get_or w (samples_w k + 4 * j + 1) 0 = only_get_d (samples_w k + 4 * j + 1) 0 r.only (⊎_elim (λ l. inl (omega arith)) (λ l. inr (omega arith)) n) in
        let d : get_or w' (samples_w k + 4 * j + 2) 0 ≡ get_or w (samples_w k + 4 * j + 2) 0 = only_get_d (samples_w k + 4 * j + 2) 0 r.only (⊎_elim (λ l. inl (omega arith)) (λ l. inr (omega arith)) n) in
        let u : get_or w' (samples_w k + 4 * j + 3) 0 ≡ get_or w (samples_w k + 4 * j + 3) 0 = only_get_d (samples_w k + 4 * j + 3) 0 r.only (⊎_elim (λ l. inl (omega arith)) (λ l. inr (omega arith)) n) in
        rw (a, t, b, c, d, u)

    pub sample_put : SamplePut k i s f w f' w'
    sample_put =
        record {
          entry = record { here = sample_here; others = λ j g n. sample_others j g (apart j i n) };
          floats = only_trans (only_wider (samples_f k) (dirs_f k) (omega arith) (omega arith) p.only) (only_wider (samples_f k) (dirs_f k) (omega arith) (omega arith) q.only);
          words = only_wider (samples_w k) (order_w k) (omega arith) (omega arith) r.only;
        }

  -- ---- an answer of a sample: its distance, and its tag and edge

  module _ (g : Option RayHit) (tied : Bool) (f' : List Float) (w' : List ℕ) (h : i < k.samples) (p : Laid (distances_f k + i) 1 (distance_of g ∷ []) f f') (q : Laid (samples_w k + 4 * i + 2) 2 (tag_of g tied ∷ number_of g ∷ []) w w') where
    hit_here : sample_at k f' w' i ≡ with_hit (sample_at k f w i) g
    unfolding sample_at
    hit_here =
        let a : get_or f' (samples_f k + i) nan ≡ get_or f (samples_f k + i) nan = only_get_d (samples_f k + i) nan p.only (inl (omega arith)) in
        let t : get_or f' (distances_f k + i) nan ≡ distance_of g = p.at 0 (distances_f k + i) nan (omega arith) (omega arith) in
        let b : get_or w' (samples_w k + 4 * i) 0 ≡ get_or w (samples_w k + 4 * i) 0 = only_get_d (samples_w k + 4 * i) 0 q.only (inl (omega arith)) in
        let c : get_or w' (samples_w k + 4 * i + 1) 0 ≡ get_or w (samples_w k + 4 * i + 1) 0 = only_get_d (samples_w k + 4 * i + 1) 0 q.only (inl (omega arith)) in
        let d : get_or w' (samples_w k + 4 * i + 2) 0 ≡ tag_of g tied = q.at 0 (samples_w k + 4 * i + 2) 0 (omega arith) (omega arith) in
        let u : get_or w' (samples_w k + 4 * i + 3) 0 ≡ number_of g = q.at 1 (samples_w k + 4 * i + 3) 0 (omega arith) (omega arith) in
        rw (a, t, b, c, d, u, cast_back)

    hit_others : (j : ℕ) → j < k.samples → (j < i) ⊎ (i < j) → sample_at k f' w' j ≡ sample_at k f w j
    unfolding sample_at
    hit_others j g n =
        let a : get_or f' (samples_f k + j) nan ≡ get_or f (samples_f k + j) nan = only_get_d (samples_f k + j) nan p.only (inl (omega arith)) in
        let t : get_or f' (distances_f k + j) nan ≡ get_or f (distances_f k + j) nan = only_get_d (distances_f k + j) nan p.only (⊎_elim (λ l. inl (omega arith)) (λ l. inr (omega arith)) n) in
        let b : get_or w' (samples_w k + 4 * j) 0 ≡ get_or w (samples_w k + 4 * j) 0 = only_get_d (samples_w k + 4 * j) 0 q.only (⊎_elim (λ l. inl (omega arith)) (λ l. inr (omega arith)) n) in
        let c : get_or w' (samples_w k + 4 * j + 1) 0 ≡ get_or w (samples_w k + 4 * j + 1) 0 = only_get_d (samples_w k + 4 * j + 1) 0 q.only (⊎_elim (λ l. inl (omega arith)) (λ l. inr (omega arith)) n) in
        let d : get_or w' (samples_w k + 4 * j + 2) 0 ≡ get_or w (samples_w k + 4 * j + 2) 0 = only_get_d (samples_w k + 4 * j + 2) 0 q.only (⊎_elim (λ l. inl (omega arith)) (λ l. inr (omega arith)) n) in
        let u : get_or w' (samples_w k + 4 * j + 3) 0 ≡ get_or w (samples_w k + 4 * j + 3) 0 = only_get_d (samples_w k + 4 * j + 3) 0 q.only (⊎_elim (λ l. inl (omega arith)) (λ l. inr (omega arith)) n) in
        rw (a, t, b, c, d, u)

    tie_here : tie_at k w' i ≡ tie_of g tied
    unfolding tie_at
    tie_here = ap (λ (m : ℕ). eqb m 2) (q.at 0 (samples_w k + 4 * i + 2) 0 (omega arith) (omega arith)) ∙ tie_back g tied

    tie_others : (j : ℕ) → (j < i) ⊎ (i < j) → tie_at k w' j ≡ tie_at k w j
    unfolding tie_at
    tie_others j n = ap (λ (m : ℕ). eqb m 2) (only_get_d (samples_w k + 4 * j + 2) 0 q.only (⊎_elim (λ l. inl (omega arith)) (λ l. inr (omega arith)) n))

    pub hit_put : HitPut k i g tied f w f' w'
    hit_put =
        record {
          put = record {
            entry = record { here = hit_here; others = λ j g n. hit_others j g (apart j i n) };
            floats = only_wider (distances_f k) (dirs_f k) (omega arith) (omega arith) p.only;
            words = only_wider (samples_w k) (order_w k) (omega arith) (omega arith) q.only;
          };
          tie = record { here = tie_here; others = λ j g n. tie_others j (apart j i n) };
        }

-- ---- a direction of a sample, of floats alone
module _ (k : Rooms) (i : ℕ) (f : List Float) (d : Vec2) (f' : List Float) (h : i < k.samples) (p : Laid (dirs_f k + 2 * i) 2 (d.x ∷ d.y ∷ []) f f') where
  dir_here : dir_at k f' i ≡ d
  unfolding dir_at
  dir_here =
      let a : get_or f' (dirs_f k + 2 * i) nan ≡ d.x = p.at 0 (dirs_f k + 2 * i) nan (omega arith) (omega arith) in
      let b : get_or f' (dirs_f k + 2 * i + 1) nan ≡ d.y = p.at 1 (dirs_f k + 2 * i + 1) nan (omega arith) (omega arith) in
      rw (a, b)

  dir_others : (j : ℕ) → j < k.samples → (j < i) ⊎ (i < j) → dir_at k f' j ≡ dir_at k f j
  unfolding dir_at
  dir_others j g n =
      let a : get_or f' (dirs_f k + 2 * j) nan ≡ get_or f (dirs_f k + 2 * j) nan = only_get_d (dirs_f k + 2 * j) nan p.only (⊎_elim (λ l. inl (omega arith)) (λ l. inr (omega arith)) n) in
      let b : get_or f' (dirs_f k + 2 * j + 1) nan ≡ get_or f (dirs_f k + 2 * j + 1) nan = only_get_d (dirs_f k + 2 * j + 1) nan p.only (⊎_elim (λ l. inl (omega arith)) (λ l. inr (omega arith)) n) in
      rw (a, b)

  pub dir_put : DirPut k i d f f'
  dir_put =
      record {
        entry = record { here = dir_here; others = λ j g n. dir_others j g (apart j i n) };
        floats = only_wider (dirs_f k) (floats_for k) (omega arith) (omega arith) p.only;
      }
