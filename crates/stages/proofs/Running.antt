-- The sweep's run over what stands in the room is the run over the defined lists. Assumes nothing.
use Rattle.std.proofs.Common.{Option}
use mathlib.Core.Path.{◌≡◌, refl, sym, ap, ◌∙◌, fun_ext}
use mathlib.Core.List.{List}
use Prim.Native.Nat.{ℕ, suc, ◌≤◌, ◌<◌}
use native.Mathlib.Omega.{arith}
use lib.ListN.{length, get_or}
use lib.Ieee.{Float}
use Rattle.num.specs.Ops.{◌⊕◌}
use Rattle.lists.specs.Lists.{listed}
use Rattle.lists.specs.Members.{All}
use Rattle.lists.specs.Parts.{part}
use Rattle.lists.proofs.Joined.{listed_ext, get_d_listed}
use Rattle.lists.proofs.Members.{all_map}
use Rattle.geom.specs.Vec.{from_angle_of}
use Rattle.cone.specs.declared.ViewCone.{ViewCone}
use Rattle.cone.specs.declared.View.{View}
use Rattle.cone.specs.Cone.{view_of, arc_step_of}
use Rattle.room.specs.declared.Rooms.{Rooms}
use Rattle.room.specs.declared.LocalEdge.{LocalEdge}
use Rattle.room.specs.declared.Sample.{Sample}
use Rattle.room.specs.Layout.{seen_w, words_for}
use Rattle.room.specs.Records.{ray_at}
use Rattle.events.specs.Spots.{Spot}
use Rattle.events.specs.Held.{spot_at}
use Rattle.index.specs.Angular.{Index, index_of}
use Rattle.index.specs.Casting.{cast_of}
use Rattle.index.specs.Stands.{index_in}
use Rattle.rays.specs.Samples.{hit_of}
use Rattle.refining.specs.Refine.{cast_in, credits_for, credits_in, env, Run}
use Rattle.seen.specs.Seen.{corners_of}
use Rattle.sweep.specs.Sweep.{Course, sample_in, course_in, sweep_of}
use Rattle.sweep.proofs.Front.{index_front, samples_front, with_corners, same_corners}
use Rattle.stages.specs.declared.Casting.{Casting}
use Rattle.stages.specs.Drawing.{request, spot_corners, no_spot, turns_of, rays_for, corners_at, run_of}
use Rattle.stages.specs.Held.{CastedTo, run_in}
use Rattle.stages.proofs.Corners.{corners_are}
use Rattle.stages.proofs.Sampling.{Names, cast_names}
use Rattle.site.specs.declared.RayHit.{RayHit}

module _ (mode : ℕ) (k : Rooms) (v : View) (es : List LocalEdge) (sp : List Spot) (c : Casting) (f : List Float) (w : List ℕ) (C : CastedTo mode k v es sp c f w)
    (fit : words_for k ≤ length w) (few : length sp ≤ k.events) where
  -- what is read is the front of the words, up to the corners seen
  abbrev front : List ℕ
  front = part 0 (seen_w k) w

  index_is : index_in k f front c.index ≡ index_of mode v.fov es
  index_is = index_front k w f c.index C.within ∙ C.index

  cast_is : cast_in k c.index f front v ≡ hit_of v (index_of mode v.fov es)
  unfolding cast_in hit_of
  cast_is = fun_ext (λ (a : Float). ap (λ (i : Index). cast_of i v.o a (from_angle_of (v.start ⊕ a)) v.r) index_is)

  credits_are : (owners : List ℕ) → credits_in k c.index f front owners v ≡ credits_for v (index_of mode v.fov es) owners
  credits_are owners = ap (λ (i : Index). credits_for v i owners) index_is

  ray_is : (t : ℕ) → sample_in k f w t ≡ ray_at k f w t
  unfolding sample_in
  ray_is t = refl

  rays_are : listed (sample_in k f front) c.samples ≡ rays_for mode v es sp
  rays_are = samples_front k w f c.samples C.few C.below ∙ listed_ext (sample_in k f w) (ray_at k f w) c.samples (λ t l. ray_is t) ∙ C.rays

  corner_is : (i : ℕ) → i < length sp → corners_of k f front i ≡ corners_at sp i
  corner_is i l =
      corners_are k f w i (omega arith) (omega arith) (C.ends (suc i) l)
      ∙ ap spot_corners (sym (get_d_listed (spot_at k f w) (length sp) i no_spot l) ∙ ap (λ (q : List Spot). get_or q i no_spot) C.spots_stay)

  agree : All (λ (s : Sample). corners_of k f front s.event ≡ corners_at sp s.event) (rays_for mode v es sp)
  agree = all_map (Names (length sp)) (λ (s : Sample). corners_of k f front s.event ≡ corners_at sp s.event) (λ s l. corner_is s.event l) (rays_for mode v es sp)
      (cast_names (length sp) v (index_of mode v.fov es) (turns_of sp))

  module _ (points : List Float) (polygons owners : List ℕ) (step : Float) (s : Run) where
    abbrev course_by : (Float → (Option RayHit)) → (Float → ℕ → List ℕ) → Course
    course_by g m = record { env = env g m v points polygons owners k.owners; step = step; seen = k.seen; corners = corners_of k f front }

    pub sweep_is : sweep_of (course_in k c.index f front v step points polygons owners) (listed (sample_in k f front) c.samples) s
        ≡ sweep_of (with_corners (course_by (hit_of v (index_of mode v.fov es)) (credits_for v (index_of mode v.fov es) owners)) (corners_at sp)) (rays_for mode v es sp) s
    sweep_is =
        ap (λ (g : Float → (Option RayHit)). sweep_of (course_by g (credits_in k c.index f front owners v)) (listed (sample_in k f front) c.samples) s) cast_is
        ∙ ap (λ (g : Float → ℕ → List ℕ). sweep_of (course_by (hit_of v (index_of mode v.fov es)) g) (listed (sample_in k f front) c.samples) s) (credits_are owners)
        ∙ ap (λ (l : List Sample). sweep_of (course_by (hit_of v (index_of mode v.fov es)) (credits_for v (index_of mode v.fov es) owners)) l s) rays_are
        ∙ same_corners (course_by (hit_of v (index_of mode v.fov es)) (credits_for v (index_of mode v.fov es) owners)) (corners_at sp) (rays_for mode v es sp) s agree

-- the run of the request
pub run_is : (mode : ℕ) (k : Rooms) (cone : ViewCone) (tolerance : Float) (es : List LocalEdge) (sp : List Spot) (c : Casting) (f : List Float) (w : List ℕ) → CastedTo mode k (view_of cone) es sp c f w
    → words_for k ≤ length w → length sp ≤ k.events → (points : List Float) (polygons owners : List ℕ) (numbers ids : ℕ)
    → run_in k c.index f w (view_of cone) (arc_step_of (view_of cone).r tolerance) points polygons owners c.samples numbers ≡ run_of (request k points polygons owners cone tolerance mode numbers ids) es sp
unfolding run_of
run_is mode k cone tolerance es sp c f w C fit few points polygons owners numbers ids =
    sweep_is mode k (view_of cone) es sp c f w C fit few points polygons owners (arc_step_of (view_of cone).r tolerance) _
