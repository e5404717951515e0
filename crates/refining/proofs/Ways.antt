-- A ray's point by its direction and by its angle; each way through `crossing`, `look`, `turn_at` and `credit_at`, over plain values. Assumes nothing.
use Rattle.std.proofs.Common.{None, Option, Some}
use mathlib.Core.Path.{◌≡◌, refl, sym, ap, ◌∙◌}
use mathlib.Core.List.{List}
use mathlib.Core.Bool.{Bool, true, false, ◌&&◌}
use Prim.Native.Nat.{ℕ}
use lib.Ieee.{Float, lt}
use borrow.Author.Tests.{eq-eqb, ne_eqb}
use Rattle.geom.specs.declared.Vec2.{Vec2}
use Rattle.num.specs.Ops.{◌⊕◌, ◌⊖◌}
use Rattle.geom.specs.Constants.{tau}
use Rattle.geom.specs.Vec.{sub_of, angle_of, distance_of, from_angle_of}
use Rattle.site.specs.declared.Ends.{Ends}
use Rattle.site.specs.Tables.{edge_of}
use Rattle.geom.specs.Segment.{normal_of, segment_intersection_of}
use Rattle.cone.specs.declared.View.{View}
use Rattle.cone.specs.Cone.{rim_of}
use Rattle.room.specs.declared.Rooms.{Rooms}
use Rattle.index.specs.declared.AngularIndex.{AngularIndex}
use Rattle.index.specs.Stands.{index_in}
use Rattle.outline.specs.declared.Trace.{Trace}
use Rattle.outline.specs.Outline.{Own}
use Rattle.credit.specs.Credit.{credits_of, own_all}
use Rattle.refining.specs.declared.End.{End}
use Rattle.refining.specs.declared.Turn.{Turn}
use Rattle.refining.specs.declared.Turn.TheVariants.{Stop, Open, Hidden}
use Rattle.refining.specs.Refine.{along_of, point_of, credits_for, credits_in, Env, crossing_of, hides, look_of, turn_of}
use Rattle.site.specs.declared.RayHit.{RayHit}

-- the point along the direction of an angle is the point at that angle
pub along_is : (view : View) (angle : Float) (hit : (Option RayHit)) → along_of view (from_angle_of (view.start ⊕ angle)) hit ≡ point_of view angle hit
unfolding along_of point_of rim_of
along_is view angle hit = refl

module _ (cast : Float → (Option RayHit)) (view : View) (a b : End) (p : Vec2) (angle : Float) {q : (Option RayHit)} (hq : q ≡ cast angle) where
  pub look_miss : q ≡ None → Open p ≡ look_of cast view a b p angle
  unfolding look_of
  look_miss x = cc

  module _ {r : RayHit} (x : q ≡ Some r) where
    pub look_first : r.edge ≡ a.edge → Open p ≡ look_of cast view a b p angle
    unfolding look_of
    look_first y = cc (eq-eqb _ _ y)

    pub look_second : (r.edge ≡ a.edge → ⊥) → r.edge ≡ b.edge → Open p ≡ look_of cast view a b p angle
    unfolding look_of
    look_second y z = cc (ne_eqb _ _ y, eq-eqb _ _ z)

    module _ (y : r.edge ≡ a.edge → ⊥) (z : r.edge ≡ b.edge → ⊥) {d : Float} (hd : d ≡ distance_of p view.o) {h : Bool} (hh : h ≡ hides d r.t) where
      pub look_hidden : {w : Vec2} → h ≡ true → w ≡ point_of view angle (Some r) → Hidden w angle r.edge ≡ look_of cast view a b p angle
      unfolding look_of
      look_hidden u hw = cc (ne_eqb _ _ y, ne_eqb _ _ z)

      pub look_behind : h ≡ false → Open p ≡ look_of cast view a b p angle
      unfolding look_of
      look_behind u = cc (ne_eqb _ _ y, ne_eqb _ _ z)

module _ (v : Env) (a b : End) {e f : Ends} (he : e ≡ edge_of v.points v.polygons v.owners a.edge) (hf : f ≡ edge_of v.points v.polygons v.owners b.edge)
    {m : (Option Vec2)} (hm : m ≡ segment_intersection_of e.a e.b f.a f.b) where
  pub turn_nowhere : m ≡ None → Stop ≡ turn_of v a b
  unfolding turn_of
  turn_nowhere x = cc

  module _ {p : Vec2} (x : m ≡ Some p) {g : Float} (hg : g ≡ crossing_of v.view a.angle p) where
    pub turn_outside : (lt a.angle g && lt g b.angle) ≡ false → Stop ≡ turn_of v a b
    unfolding turn_of
    turn_outside y = cc

    pub turn_between : {t : Turn} → (lt a.angle g && lt g b.angle) ≡ true → t ≡ look_of v.cast v.view a b p g → t ≡ turn_of v a b
    unfolding turn_of
    turn_between y ht = cc

module _ (view : View) (from : Float) (p : Vec2) {d : Vec2} (hd : d ≡ sub_of p view.o) {g : Float} (hg : g ≡ angle_of d) {n : Float} (hn : n ≡ normal_of (g ⊖ view.start)) where
  same : n ≡ normal_of (angle_of (sub_of p view.o) ⊖ view.start)
  same = rw (hn, hg, hd)

  pub crossing_past : lt n from ≡ true → n ⊕ tau ≡ crossing_of view from p
  unfolding crossing_of
  crossing_past h = rw (sym same, h)

  pub crossing_there : lt n from ≡ false → n ≡ crossing_of view from p
  unfolding crossing_of
  crossing_there h = rw (sym same, h)

-- the credits at an angle, by its direction
pub credit_is : (k : Rooms) (x : AngularIndex) (floats : List Float) (words owners : List ℕ) (view : View) (angle : Float) (e room : ℕ) (marks : List ℕ) (s : Trace) {d : Vec2} → d ≡ from_angle_of (view.start ⊕ angle)
    → {r : Own} → r ≡ own_all room owners (credits_of (index_in k floats words x) owners view.o angle d view.r e) marks s
    → r ≡ own_all room owners (credits_in k x floats words owners view angle e) marks s
unfolding credits_for
credit_is k x floats words owners view angle e room marks s hd h =
    h ∙ ap (λ (d : Vec2). own_all room owners (credits_of (index_in k floats words x) owners view.o angle d view.r e) marks s) hd
