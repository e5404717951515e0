-- The front edges and the merged events: one law for each way through `gather`. Assumes nothing.
use mathlib.Core.Path.{◌≡◌, sym, ap, ◌∙◌}
use mathlib.Core.Logic.{inl}
use mathlib.Core.Bool.{true, false}
use mathlib.Core.List.{List, ◌++◌}
use Prim.Native.Nat.{ℕ, ◌≤◌}
use native.Mathlib.Omega.{arith}
use borrow.Author.Tests.{ltb-false}
use lib.Dec.{ltb}
use lib.ListN.{length}
use lib.Ieee.{Float}
use Rattle.lists.specs.Parts.{Only}
use Rattle.lists.proofs.AllTo.{neither}
use Rattle.lists.proofs.Only.{only_part}
use Rattle.cone.specs.declared.View.{View}
use Rattle.room.specs.declared.Rooms.{Rooms}
use Rattle.room.specs.declared.Event.{Event}
use Rattle.room.specs.Layout.{events_f, samples_f, edges_w, nearest_w, events_w, starts_w, Fit}
use Rattle.room.specs.Records.{edges_in, events_in}
use Rattle.room.proofs.Kept.{edges_kept}
use Rattle.fan.specs.declared.Fan.{Fan}
use Rattle.fan.specs.Fan.{Fanned, Scanned}
use Rattle.events.specs.declared.Merging.{Merging}
use Rattle.events.specs.Spots.{sides_of, aside_count}
use Rattle.events.specs.Held.{Merges}
use Rattle.events.proofs.Bounds.{spots_le}
use Rattle.stages.specs.Drawing.{unmerged_of, spots_for}
use Rattle.stages.specs.declared.Gathering.TheVariants.{Over, Touching, Found}
use Rattle.stages.specs.Held.{gathering_of, Gathered}

pub fit_kept : {k : Rooms} {a b : ℕ} (c d : ℕ) → c ≡ a → d ≡ b → Fit k a b → Fit k c d
fit_kept c d p q h = rw (p, q) h

module _ (k : Rooms) (v : View) (g : Fanned) where
  over_gathered : (f : List Float) (w : List ℕ) → Over ≡ gathering_of k v g → Gathered k v g Over f w
  over_gathered f w e = record { is = e; kept = tt }

  module _ (r : Fan) (f : List Float) (w : List ℕ) (f1 : List Float) (w1 : List ℕ) (F : Scanned k g r f w f1 w1) where
    over_is : r.over ≡ true → Over ≡ gathering_of k v g
    unfolding gathering_of
    over_is h = rw (sym F.over ∙ h)

    pub scan_over : r.over ≡ true → Gathered k v g Over f1 w1
    scan_over h = over_gathered f1 w1 (over_is h)

    module _ (h : r.over ≡ false) where
      touch_is : r.touch ≡ true → Touching ≡ gathering_of k v g
      unfolding gathering_of
      touch_is t = rw (sym F.over ∙ h, sym F.touch ∙ t)

      pub scan_touch : r.touch ≡ true → Gathered k v g Touching f1 w1
      scan_touch t = record { is = touch_is t; kept = tt }

      bounds : (length g.edges ≤ k.edges) × (length g.events ≤ k.events)
      bounds =
          let n = neither (ltb k.edges (length g.edges)) (ltb k.events (length g.events)) (sym F.over ∙ h) in
          (ltb-false k.edges (length g.edges) n.0, ltb-false k.events (length g.events) n.1)

      pub events_few : r.events ≤ k.events
      events_few = omega (arith, F.events, bounds.1)

      pub edges_few : r.edges ≤ k.edges
      edges_few = omega (arith, F.edges, bounds.0)

      module _ (t : r.touch ≡ false) (m : Merging) (n : ℕ) (f2 : List Float) (w2 : List ℕ) (hn : n ≡ r.events)
          (M₀ : Merges k (events_in k f1 w1 n ++ sides_of v.full v.fov) f2 w2 m) (O : Only (events_f k) (samples_f k) f1 f2 × Only (events_w k) (starts_w k) w1 w2) where
        unmerged_is : events_in k f1 w1 n ++ sides_of v.full v.fov ≡ unmerged_of v g
        unmerged_is = ap (λ (l : List Event). l ++ sides_of v.full v.fov) (ap (events_in k f1 w1) hn ∙ F.events_stand h)

        M : Merges k (unmerged_of v g) f2 w2 m
        M = rw unmerged_is at M₀

        merge_is : m.over ≡ true → Over ≡ gathering_of k v g
        unfolding gathering_of
        merge_is q = rw (sym F.over ∙ h, sym F.touch ∙ t, sym M.over_is ∙ q)

        pub merge_over : m.over ≡ true → Gathered k v g Over f2 w2
        merge_over q = over_gathered f2 w2 (merge_is q)

        all_is : m.over ≡ false → Found r.candidates r.edges m.events ≡ gathering_of k v g
        unfolding gathering_of
        all_is q = rw (sym F.over ∙ h, sym F.touch ∙ t, sym M.over_is ∙ q, F.candidates, F.edges, M.events_are q)

        spots_few : m.over ≡ false → m.events ≤ k.events
        spots_few q =
            let e = neither (ltb k.events (length (unmerged_of v g))) (ltb k.corners (aside_count (spots_for v g))) (sym M.over_is ∙ q) in
            omega (arith, M.events_are q, spots_le (unmerged_of v g), ltb-false k.events (length (unmerged_of v g)) e.0)

        edges_stay : edges_in k f2 w2 r.edges ≡ g.edges
        edges_stay =
            edges_kept k f1 f2 w1 w2 r.edges edges_few (only_part 0 (events_f k) O.0 (inl (omega arith))) (only_part (edges_w k) (nearest_w k) O.1 (inl (omega arith)))
            ∙ F.edges_stand h

        pub merge_done : Fit k (length f) (length w) → m.over ≡ false → Gathered k v g (Found r.candidates r.edges m.events) f2 w2
        merge_done fit q = record {
          is = all_is q;
          kept = record {
            edges_are = edges_stay;
            spots_are = M.spots_are q;
            stand = record {
              fit = fit_kept (length f2) (length w2) (O.0.long ∙ F.floats_only.long) (O.1.long ∙ F.words_only.long) fit;
              edges_fit = edges_few;
              events_fit = spots_few q;
              ends = M.ends_are q;
            };
          };
        }
