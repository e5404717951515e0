-- The scan id by id: what a list of ids gives is what its front gives, and then what the rest gives; and what stands in the room at the end.
-- Assumes nothing.
use mathlib.Core.Path.{◌≡◌, sym, ap, ◌∙◌}
use mathlib.Core.Logic.{inl}
use mathlib.Core.List.{List, [], ◌∷◌, ◌++◌}
use Prim.Native.Nat.{ℕ, ◌+◌, ◌≤◌, ◌<◌}
use native.Mathlib.Nat.{zero-add}
use native.Mathlib.Numerals.{add-one}
use native.Mathlib.Omega.{arith}
use borrow.Author.Tests.{ltb-false}
use lib.ListN.{length, get_or, take}
use lib.Seq.{take-suc}
use lib.Ieee.{Float}
use lib.Dec.{ltb}
use Rattle.lists.proofs.AllTo.{neither}
use Rattle.lists.proofs.Only.{only_get_d}
use Rattle.site.specs.declared.Site.{Site}
use Rattle.site.specs.Tables.{Tables, first_of, len_of}
use Rattle.site.specs.Soundness.{Sound}
use Rattle.cone.specs.declared.View.{View}
use Rattle.room.specs.declared.Rooms.{Rooms}
use Rattle.room.specs.Layout.{Fit}
use Rattle.room.specs.Records.{edges_in, events_in}
use Rattle.fan.specs.declared.Tally.{Tally}
use Rattle.fan.specs.declared.Fan.{Fan}
use Rattle.fan.specs.Fan.{Fanned, both, polygon_fan, fan_of, zero_tally, is_over, Added, Inside, Ready, Scanned}
use Rattle.fan.proofs.Adding.{both_nothing, both_none, both_assoc, added_none, added_both}
use Rattle.fan.proofs.Counts.{Met, met_none, met_more}

module _ (v : View) (points boxes : List Float) (polygons : List ℕ) where
  pub fan_append : (xs ys : List ℕ) → fan_of v points boxes polygons (xs ++ ys) ≡ both (fan_of v points boxes polygons xs) (fan_of v points boxes polygons ys)
  unfolding fan_of
  fan_append [] ys = sym (both_nothing _)
  fan_append (id ∷ xs) ys =
      ap (both (polygon_fan v points boxes polygons id)) (fan_append xs ys)
      ∙ sym (both_assoc (polygon_fan v points boxes polygons id) (fan_of v points boxes polygons xs) (fan_of v points boxes polygons ys))

  fan_one : (id : ℕ) → fan_of v points boxes polygons (id ∷ []) ≡ polygon_fan v points boxes polygons id
  unfolding fan_of
  fan_one id = both_none (polygon_fan v points boxes polygons id)

  -- one id more
  pub fan_more : (ids : List ℕ) (m : ℕ) → m < length ids
      → fan_of v points boxes polygons (take (m + 1) ids) ≡ both (fan_of v points boxes polygons (take m ids)) (polygon_fan v points boxes polygons (get_or ids m 0))
  fan_more ids m h =
      ap (λ (n : ℕ). fan_of v points boxes polygons (take n ids)) (add-one m)
      ∙ ap (fan_of v points boxes polygons) (take-suc ids m 0 h)
      ∙ fan_append (take m ids) (get_or ids m 0 ∷ [])
      ∙ ap (both (fan_of v points boxes polygons (take m ids))) (fan_one (get_or ids m 0))

-- ---- what the scan asks, of sound tables and listed ids

pub ready : (s : Site) (t : Tables) → Sound s t → (k : Rooms) (n : ℕ) (f : List Float) (w : List ℕ) → Fit k (length f) (length w) → n ≤ k.ids
    → ((m : ℕ) → m < n → get_or w m 0 < s.polygons) → Ready k t.polygons n f w
ready s t q k n f w fit few below = record {
  fit = fit;
  few = few;
  inside = λ m h. omega (arith, q.inside (get_or w m 0) (below m h), q.few_points);
}

-- ---- the loop: after m ids

pub record Run (k : Rooms) (v : View) (points boxes : List Float) (polygons : List ℕ) (f₀ : List Float) (w₀ : List ℕ) (m : ℕ) (t : Tally) (f : List Float) (w : List ℕ) : Type 0 where
  pub met : Met m t
  pub added : Added k (fan_of v points boxes polygons (take m w₀)) zero_tally f₀ w₀ t f w

pub run_none : (k : Rooms) (v : View) (points boxes : List Float) (polygons : List ℕ) (f : List Float) (w : List ℕ) → Run k v points boxes polygons f w 0 zero_tally f w
unfolding fan_of
run_none k v points boxes polygons f w = record { met = met_none; added = added_none zero_tally f w }

module _ {k : Rooms} {v : View} {points boxes : List Float} {polygons : List ℕ} {n : ℕ} {f₀ : List Float} {w₀ : List ℕ} {m : ℕ} {t : Tally} {f : List Float} {w : List ℕ}
    (r : Ready k polygons n f₀ w₀) (a : Run k v points boxes polygons f₀ w₀ m t f w) (h : m < n) where
  -- the ids still stand in front of the words
  id_kept : get_or w m 0 ≡ get_or w₀ m 0
  id_kept = only_get_d m 0 a.added.words_only (inl (omega (arith, r.few)))

  pub id_there : m < length w
  id_there = omega (arith, h, r.few, r.fit.words_fit, a.added.words_only.long)

  pub id_inside : Inside (first_of polygons (get_or w m 0)) (len_of polygons (get_or w m 0))
  id_inside = rw id_kept (r.inside m h)

  pub run_more : {t' : Tally} {f' : List Float} {w' : List ℕ} → Added k (polygon_fan v points boxes polygons (get_or w m 0)) t f w t' f' w' → Run k v points boxes polygons f₀ w₀ (m + 1) t' f' w'
  run_more b =
      let l : m < length w₀ = omega (arith, h, r.few, r.fit.words_fit) in
      record {
        met = met_more v points boxes polygons (get_or w m 0) id_inside b a.met;
        added = rw (fan_more v points boxes polygons w₀ m l) (added_both a.added (rw id_kept at b));
      }

-- ---- the end of the scan

module _ {k : Rooms} {g : Fanned} {t : Tally} {f f' : List Float} {w w' : List ℕ} (a : Added k g zero_tally f w t f' w')
    (r : Fan) (c : r.candidates ≡ t.candidates) (e : r.edges ≡ t.edges) (v : r.events ≡ t.events) (b : r.touch ≡ t.touch) (o : r.over ≡ is_over k t.edges t.events) where
  edges_are : t.edges ≡ length g.edges
  edges_are = a.edges ∙ zero-add _

  events_are : t.events ≡ length g.events
  events_are = a.events ∙ zero-add _

  pub scanned : Scanned k g r f w f' w'
  scanned = record {
    candidates = c ∙ a.candidates ∙ zero-add _;
    edges = e ∙ edges_are;
    events = v ∙ events_are;
    touch = b ∙ a.touch;
    over = o ∙ ap (λ (n : ℕ). is_over k n t.events) edges_are ∙ ap (is_over k (length g.edges)) events_are;
    edges_stand = λ h. ap (edges_in k f' w') e ∙ a.edges_stand (ltb-false _ _ (neither (ltb k.edges t.edges) _ (sym o ∙ h)).0);
    events_stand = λ h. ap (events_in k f' w') v ∙ a.events_stand (ltb-false _ _ (neither (ltb k.edges t.edges) _ (sym o ∙ h)).1);
    floats_only = a.floats_only;
    words_only = a.words_only;
  }
