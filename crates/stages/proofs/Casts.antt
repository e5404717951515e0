-- The index and the rays: one law for each way through `cast_rays`. Assumes nothing.
use mathlib.Core.Path.{◌≡◌, refl, sym, ap, ◌∙◌, subst}
use mathlib.Core.Logic.{inl, inr}
use mathlib.Core.Bool.{true, false}
use mathlib.Core.List.{List}
use Prim.Native.Nat.{ℕ}
use native.Mathlib.Omega.{arith}
use borrow.Author.Tests.{ltb-false}
use lib.Dec.{ltb}
use lib.ListN.{length}
use lib.Ieee.{Float}
use Rattle.num.specs.Ops.{◌⊕◌}
use Rattle.lists.specs.Parts.{part}
use Rattle.lists.proofs.Only.{only_part}
use Rattle.lists.proofs.Joined.{length_listed}
use Rattle.geom.specs.Vec.{from_angle_of}
use Rattle.cone.specs.declared.View.{View}
use Rattle.room.specs.declared.Rooms.{Rooms}
use Rattle.room.specs.declared.LocalEdge.{LocalEdge}
use Rattle.room.specs.declared.Sample.{Sample}
use Rattle.room.specs.Layout.{merged_f, samples_f, merged_w, starts_w, seen_w}
use Rattle.room.specs.Records.{edge_at, edges_in, Noted}
use Rattle.events.specs.Spots.{Spot}
use Rattle.events.specs.Held.{spot_at, spots_in, EndsBelow}
use Rattle.events.proofs.Reading.{spots_kept, ends_kept}
use Rattle.index.specs.declared.AngularIndex.{AngularIndex}
use Rattle.index.specs.declared.Indexed.{Indexed}
use Rattle.index.specs.Spans.{head_of}
use Rattle.index.specs.Angular.{Index, index_of}
use Rattle.index.specs.Stands.{index_in, Within, Ready, over_of, Builds}
use Rattle.index.proofs.Kept.{within_behind, index_behind}
use Rattle.rays.specs.declared.Rays.{Rays}
use Rattle.rays.specs.Samples.{samples_of, hit_of, tied_on, Lone, rays_cast}
use Rattle.rays.specs.Stands.{turn_at, Sampling, Sampled}
use Rattle.credit.specs.Credit.{further_of}
use Rattle.credit.proofs.Credits.{further_none}
use Rattle.sweep.specs.Sweep.{Spared}
use Rattle.sweep.proofs.Front.{index_front, noted_front}
use Rattle.stages.specs.declared.Casting.{Casting}
use Rattle.stages.specs.Drawing.{samples_for, index_over, rays_over}
use Rattle.stages.specs.Held.{Standing, CastedTo}
use Rattle.stages.proofs.Gathers.{fit_kept}
use Rattle.stages.proofs.Sampling.{samples_are}

-- the mode does not count for the buckets
few_buckets : (mode n : ℕ) (total : Float) → (head_of mode n total).buckets ≡ (head_of 0 n total).buckets
unfolding head_of
few_buckets mode n total = refl

module _ (mode : ℕ) (k : Rooms) (v : View) (edges events : ℕ) (f : List Float) (w : List ℕ) (S : Standing k edges events f w) where
  pub ready : Ready k f w edges
  ready = record { fit = S.fit; held = S.edges_fit }

  es : List LocalEdge
  es = edges_in k f w edges

  sp : List Spot
  sp = spots_in k f w events

  module _ (b : Indexed) (total : Float) (w1 : List ℕ) (ht : total ≡ v.fov) (B₀ : Builds mode k f w edges total b w1) where
    B : Builds mode k f w edges v.fov b w1
    B = rw ht at B₀

    index_over_lem : b.over ≡ index_over k v (edges_in k f w edges)
    index_over_lem =
        B.over
        ∙ ap (λ (x : AngularIndex). over_of k x.buckets b.refs) B.head
        ∙ ap (λ (m : ℕ). over_of k m b.refs) (few_buckets mode edges v.fov) ∙ ap (λ (n : ℕ). over_of k (head_of 0 n v.fov).buckets b.refs) (sym (length_listed (edge_at k f w) edges))
        ∙ ap (over_of k (head_of 0 (length (edges_in k f w edges)) v.fov).buckets) B.refs

    pub build_over : b.over ≡ true → rays_over k v (edges_in k f w edges) (spots_in k f w events) ≡ true
    unfolding rays_over
    build_over h = rw (sym index_over_lem ∙ h)

    between_kept : part (merged_w k) (starts_w k) w1 ≡ part (merged_w k) (starts_w k) w
    between_kept = only_part (merged_w k) (starts_w k) B.filled (inl (omega arith)) ∙ only_part (merged_w k) (starts_w k) B.ordered (inr (omega arith))

    spots_1 : spots_in k f w1 events ≡ spots_in k f w events
    spots_1 = spots_kept k f f w w1 events S.events_fit S.ends refl between_kept

    ends_1 : EndsBelow k f w1 events
    ends_1 = ends_kept k f f w w1 events S.events_fit S.ends refl between_kept

    module _ (h : b.over ≡ false) (x : AngularIndex) (hx : x ≡ b.index) (n : ℕ) (hn : n ≡ events) where
      stands : index_in k f w1 x ≡ index_of mode v.fov (edges_in k f w edges)
      stands = ap (index_in k f w1) hx ∙ B.stands h

      sound : Within k w1 x
      sound = rw hx (B.sound h)

      pub sampling : Sampling k x f w1 n
      sampling = record {
        fit = fit_kept (length f) (length w1) refl (B.filled.long ∙ B.ordered.long) S.fit;
        held = omega (arith, S.events_fit);
        sound = sound;
      }

      module _ (r : Rays) (f2 : List Float) (w2 : List ℕ) (R₀ : Sampled k v x n f w1 r f2 w2) where
        R : Sampled k v x events f w1 r f2 w2
        R = rw hn at R₀

        samples_is : samples_of v (turn_at k f w1) events ≡ samples_for v (spots_in k f w events)
        samples_is = samples_are k f w1 events v ∙ ap (samples_for v) spots_1

        many : r.samples ≡ length (samples_for v (spots_in k f w events))
        many = R.samples ∙ ap length samples_is

        ray_over : r.over ≡ rays_over k v (edges_in k f w edges) (spots_in k f w events)
        unfolding rays_over
        ray_over = R.over ∙ ap (ltb k.samples) many ∙ rw (sym index_over_lem ∙ h)

        merged_kept : part (merged_f k) (samples_f k) f2 ≡ part (merged_f k) (samples_f k) f
        merged_kept = only_part (merged_f k) (samples_f k) R.floats (inl (omega arith))

        corners_kept : part (merged_w k) (starts_w k) w2 ≡ part (merged_w k) (starts_w k) w1
        corners_kept = only_part (merged_w k) (starts_w k) R.words (inl (omega arith))

        few_events : length (spots_in k f w events) ≡ events
        few_events = length_listed (spot_at k f w) events

        pub cast_over : r.over ≡ true → rays_over k v (edges_in k f w edges) (spots_in k f w events) ≡ true
        cast_over e = sym ray_over ∙ e

        pub cast_done : r.over ≡ false → CastedTo mode k v (edges_in k f w edges) (spots_in k f w events) (record { index = x; samples = r.samples }) f2 w2
        cast_done e = record {
          fits = sym ray_over ∙ e;
          samples = many;
          few = ltb-false k.samples r.samples (sym R.over ∙ e);
          rays = R.rays e ∙ ap (λ (i : Index). rays_cast v i (samples_of v (turn_at k f w1) events)) stands ∙ ap (rays_cast v (index_of mode v.fov (edges_in k f w edges))) samples_is;
          below = R.below e;
          noted = subst (λ (i : Index). Noted k v.start (Lone v i) f2 w2 r.samples) stands (R.noted e);
          index = index_behind k f f2 w1 w2 x sound R.floats R.words (omega arith) (omega arith) ∙ stands;
          within = within_behind k f f2 w1 w2 x sound R.floats R.words (omega arith) (omega arith);
          spots_stay = ap (spots_in k f2 w2) few_events ∙ spots_kept k f f2 w1 w2 events S.events_fit ends_1 merged_kept corners_kept ∙ spots_1;
          ends = rw few_events (ends_kept k f f2 w1 w2 events S.events_fit ends_1 merged_kept corners_kept);
        }

-- ---- where no tie is noted, the cast has no further credits
module _ (k : Rooms) (x : AngularIndex) (f : List Float) (w owners : List ℕ) (v : View) (i : Index) (stands : index_in k f w x ≡ i) where
  spared : (a : Sample) → Lone v i a → Spared k x f w owners v a
  unfolding hit_of tied_on
  spared a lone =
      ap (λ (q : Index). further_of q owners v.o a.angle (from_angle_of (v.start ⊕ a.angle)) v.r) stands
      ∙ further_none i owners v.o a.angle (from_angle_of (v.start ⊕ a.angle)) v.r lone

pub noted_still : (mode : ℕ) (k : Rooms) (v : View) (edges : List LocalEdge) (spots : List Spot) (r : Casting) (f : List Float) (w : List ℕ) → CastedTo mode k v edges spots r f w → (owners : List ℕ)
    → Noted k v.start (Spared k r.index f (part 0 (seen_w k) w) owners v) f (part 0 (seen_w k) w) r.samples
noted_still mode k v edges spots r f w C owners =
    noted_front k w f r.samples C.few C.below v.start (Lone v (index_of mode v.fov edges)) (Spared k r.index f (part 0 (seen_w k) w) owners v)
    (spared k r.index f (part 0 (seen_w k) w) owners v (index_of mode v.fov edges) (index_front k w f r.index C.within ∙ C.index)) C.noted
