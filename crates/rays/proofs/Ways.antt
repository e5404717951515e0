-- Each way through `aim_at`, `emit`, `event_rays` and `cast_one`, over plain values. Assumes nothing.
use Rattle.std.proofs.Common.{Option}
use Rattle.std.specs.Prelude.{Some, None}
use mathlib.Core.Path.{◌≡◌, refl, ap, ◌∙◌, subst}
use mathlib.Core.Bool.{Bool, true, false, cond}
use mathlib.Core.List.{List, [], ◌∷◌, ◌++◌}
use Prim.Native.Nat.{ℕ, ◌+◌, ◌≤◌}
use native.Mathlib.Omega.{arith}
use lib.ListN.{length, length-append}
use lib.Ieee.{Float}
use Rattle.lists.specs.Lists.{bit, cons_if}
use Rattle.lists.proofs.Counting.{length_cons_if, bit_le}
use Rattle.num.specs.Ops.{◌⊕◌, ◌⊗◌, zero_f}
use Rattle.geom.specs.Segment.{within}
use Rattle.geom.specs.Vec.{from_angle_of}
use Rattle.geom.specs.declared.Vec2.{Vec2}
use Rattle.cone.specs.declared.View.{View}
use Rattle.room.specs.declared.Rooms.{Rooms}
use Rattle.room.specs.declared.Merged.{Merged}
use Rattle.room.specs.declared.Sample.{Sample}
use Rattle.room.specs.Records.{merged_at}
use Rattle.index.specs.Angular.{Index}
use Rattle.index.specs.Casting.{cast_of, is_tied}
use Rattle.room.specs.Constants.{angle_eps}
use Rattle.rays.specs.Samples.{step_of, wrap_of, aim_by, aim_of, aimed, Turn, sample_of, ray_of, rays_of, hit_of, tied_on}
use Rattle.rays.specs.Stands.{turn_at}
use Rattle.site.specs.declared.RayHit.{RayHit}

module _ (view : View) (event : Float) (offset : ℕ) {s : Float} (hs : s ≡ step_of offset) where
  by_full : view.full ≡ true → {a : Float} → a ≡ wrap_of (event ⊕ s ⊗ angle_eps) → aim_by true a ≡ aim_of view event offset
  unfolding aim_of
  by_full e ha = cc

  by_part : view.full ≡ false → aim_by (within zero_f view.fov (event ⊕ s ⊗ angle_eps)) (event ⊕ s ⊗ angle_eps) ≡ aim_of view event offset
  unfolding aim_of
  by_part e = cc

  pub aim_full : view.full ≡ true → {a : Float} → a ≡ wrap_of (event ⊕ s ⊗ angle_eps) → Some a ≡ aimed (aim_of view event offset)
  aim_full e ha = ap aimed (by_full e ha)

  pub aim_kept : view.full ≡ false → within zero_f view.fov (event ⊕ s ⊗ angle_eps) ≡ true → Some (event ⊕ s ⊗ angle_eps) ≡ aimed (aim_of view event offset)
  aim_kept e h = rw h at (ap aimed (by_part e))

  pub aim_none : view.full ≡ false → within zero_f view.fov (event ⊕ s ⊗ angle_eps) ≡ false → None ≡ aimed (aim_of view event offset)
  aim_none e h = rw h at (ap aimed (by_part e))

-- what is kept of a ray
module _ (i offset : ℕ) where
  kept_by : (kept : Bool) (g t : Float) → Some t ≡ cond kept (Some g) None → sample_of t i offset ∷ [] ≡ cons_if kept (sample_of g i offset) []
  kept_by true g t e = let h : t ≡ g = cc in rw h
  kept_by false g t e = cc

  none_by : (kept : Bool) (g : Float) → None ≡ cond kept (Some g) None → [] ≡ cons_if kept (sample_of g i offset) []
  none_by true g e = cc
  none_by false g e = refl

module _ (view : View) (i : ℕ) (event : Float) (offset : ℕ) where
  pub ray_kept : (t : Float) → Some t ≡ aimed (aim_of view event offset) → sample_of t i offset ∷ [] ≡ ray_of view i event offset
  unfolding ray_of
  ray_kept t e = kept_by i offset (aim_of view event offset).kept (aim_of view event offset).angle t e

  pub ray_none : None ≡ aimed (aim_of view event offset) → [] ≡ ray_of view i event offset
  unfolding ray_of
  ray_none e = none_by i offset (aim_of view event offset).kept (aim_of view event offset).angle e

pub ray_few : (view : View) (i : ℕ) (event : Float) (offset : ℕ) → length (ray_of view i event offset) ≤ 1
unfolding ray_of
ray_few view i event offset =
    omega (arith, length_cons_if (aim_of view event offset).kept (sample_of (aim_of view event offset).angle i offset) [], bit_le (aim_of view event offset).kept)

module _ (k : Rooms) (view : View) (floats : List Float) (words : List ℕ) (i : ℕ) (m : Merged) (hm : m ≡ merged_at k floats words i) where
  pub rays_side : m.side ≡ true → ray_of view i m.angle 0 ++ (ray_of view i m.angle 1 ++ ray_of view i m.angle 2) ≡ rays_of view i (turn_at k floats words i)
  unfolding rays_of turn_at
  rays_side e = subst (λ (q : Merged). ray_of view i m.angle 0 ++ (ray_of view i m.angle 1 ++ ray_of view i m.angle 2) ≡ rays_of view i (record { angle = q.angle; side = q.side })) hm (rw e)

  pub rays_plain : m.side ≡ false → ray_of view i m.angle 0 ++ ray_of view i m.angle 2 ≡ rays_of view i (turn_at k floats words i)
  unfolding rays_of turn_at
  rays_plain e = subst (λ (q : Merged). ray_of view i m.angle 0 ++ ray_of view i m.angle 2 ≡ rays_of view i (record { angle = q.angle; side = q.side })) hm (rw e)

two_or_three : (view : View) (i : ℕ) (angle : Float) (side : Bool) → length (ray_of view i angle 0 ++ (cond side (ray_of view i angle 1) [] ++ ray_of view i angle 2)) ≤ 2 + bit side
two_or_three view i angle true =
    omega (
      arith,
      length-append (ray_of view i angle 0) (ray_of view i angle 1 ++ ray_of view i angle 2),
      length-append (ray_of view i angle 1) (ray_of view i angle 2),
      ray_few view i angle 0,
      ray_few view i angle 1,
      ray_few view i angle 2,
    )
two_or_three view i angle false = omega (arith, length-append (ray_of view i angle 0) (ray_of view i angle 2), ray_few view i angle 0, ray_few view i angle 2)

-- two rays for each event at most, and one more at a sector's side
pub rays_few : (view : View) (i : ℕ) (t : Turn) → length (rays_of view i t) ≤ 2 + bit t.side
unfolding rays_of
rays_few view i t = two_or_three view i t.angle t.side

pub cast_is : (view : View) (x : Index) (whole : Sample) {s : Sample} {d : Vec2} {r : (Option RayHit)} → s ≡ whole → d ≡ from_angle_of (view.start ⊕ s.angle) → r ≡ cast_of x view.o s.angle d view.r → r ≡ hit_of view x whole.angle
unfolding hit_of
cast_is view x whole {s} hs hd e =
    e ∙ ap (λ (q : Vec2). cast_of x view.o s.angle q view.r) hd ∙ ap (λ (q : Sample). cast_of x view.o q.angle (from_angle_of (view.start ⊕ q.angle)) view.r) hs

pub tied_is : (view : View) (x : Index) (whole : Sample) {s : Sample} {d : Vec2} {r : Bool} → s ≡ whole → d ≡ from_angle_of (view.start ⊕ s.angle) → r ≡ is_tied x view.o s.angle d view.r → r ≡ tied_on view x whole.angle
unfolding tied_on
tied_is view x whole {s} hs hd e =
    e ∙ ap (λ (q : Vec2). is_tied x view.o s.angle q view.r) hd ∙ ap (λ (q : Sample). is_tied x view.o q.angle (from_angle_of (view.start ⊕ q.angle)) view.r) hs
