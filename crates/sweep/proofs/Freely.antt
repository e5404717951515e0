-- THE RUST'S RUN GOES BY NO BOUND (`sweep_same`): the walk over a recorder that keeps to no entries is the same whatever entries the course states, of the owners and of
-- the corners seen. Assumes nothing.
use Rattle.std.proofs.Common.{◌≡◌, ℕ, zero, suc, cond, eqb, List, [], ◌∷◌, refl, ap, ◌∙◌, None, Option, Some}
use lib.Ieee.{Float, lt}
use Rattle.num.specs.Ops.{◌⊖◌, ◌⊗◌}
use Rattle.site.specs.Tables.{edge_of}
use Rattle.cone.specs.declared.View.{View}
use Rattle.cone.specs.Cone.{three}
use Rattle.room.specs.declared.Sample.{Sample}
use Rattle.room.specs.Constants.{angle_eps}
use Rattle.refining.specs.declared.End.{End}
use Rattle.refining.specs.declared.Turn.{Turn}
use Rattle.refining.specs.declared.Turn.TheVariants.{Stop, Open, Hidden}
use Rattle.refining.specs.Refine.{Env, env, meet_of, turn_by, turn_of, end_of}
use Rattle.std.specs.Prelude.{Option, Some, None}
use Rattle.sweep.specs.Sweep.{is_pair, next_of, Course}
use Rattle.sweep.specs.Recorder.{Recorder, halve_with, refine_with, emit_with, gap_with, between_with, visit_with, walk_with, sweep_with}
use Rattle.geom.specs.declared.Vec2.{Vec2}
use Rattle.site.specs.declared.RayHit.{RayHit}

module _ (cast : Float → (Option RayHit)) (credits : Float → ℕ → List ℕ) (view : View) (points : List Float) (polygons owners : List ℕ) (room room' : ℕ) where
  abbrev one : Env
  one = env cast credits view points polygons owners room

  abbrev two : Env
  two = env cast credits view points polygons owners room'

  turn_by_lem : (m : (Option Vec2)) (a b : End) → turn_by m one a b ≡ turn_by m two a b
  turn_by_lem (Some p) a b = refl
  turn_by_lem None a b = refl

  turn_same : (a b : End) → turn_of one a b ≡ turn_of two a b
  unfolding turn_of
  turn_same a b = turn_by_lem (meet_of (edge_of points polygons owners a.edge) (edge_of points polygons owners b.edge)) a b

  module _ {S : Type 0} (r : Recorder S) where
    halve_same : (f g : End → End → S → S) → ((a b : End) (s : S) → f a b s ≡ g a b s) → (a b : End) (t : Turn) (s : S) → halve_with r f one a b t s ≡ halve_with r g two a b t s
    halve_same f g h a b Stop s = refl
    halve_same f g h a b (Open p) s = refl
    halve_same f g h a b (Hidden p w e) s = h (end_of w e) b _ ∙ ap (λ (x : S). g (end_of w e) b (r.push p e x)) (h a (end_of w e) _)

    refine_same : (n : ℕ) (a b : End) (s : S) → refine_with r one n a b s ≡ refine_with r two n a b s
    unfolding refine_with
    refine_same zero a b s = refl
    refine_same (suc n) a b s =
        ap (λ (t : Turn). halve_with r (refine_with r one n) one a b t s) (turn_same a b)
        ∙ halve_same (refine_with r one n) (refine_with r two n) (refine_same n) a b (turn_of two a b) s

    emit_same : (c : (Option RayHit)) (angle : Float) (s : S) → emit_with r c one angle s ≡ emit_with r c two angle s
    emit_same (Some h) angle s = refl
    emit_same None angle s = refl

    gap_same : (c d : (Option RayHit)) (step from to : Float) (s : S) → gap_with r c d one step from to s ≡ gap_with r c d two step from to s
    gap_same None None step from to s = refl
    gap_same None (Some h) step from to s = refl
    gap_same (Some h) None step from to s = refl
    gap_same (Some h) (Some q) step from to s =
        ap (λ (x : S). cond (eqb h.edge q.edge) s (cond (lt (three ⊗ angle_eps) (to ⊖ from)) x s)) (refine_same 33 (end_of from h.edge) (end_of to q.edge) s)

    module _ (step : Float) (seen seen' : ℕ) (corners : ℕ → List ℕ) where
      abbrev here : Course
      here = record { env = one; step = step; seen = seen; corners = corners }

      abbrev there : Course
      there = record { env = two; step = step; seen = seen'; corners = corners }

      between_same : (a b : Sample) (s : S) → between_with r here a b s ≡ between_with r there a b s
      unfolding between_with
      between_same a b s = ap (cond (is_pair a b) _) (gap_same a.hit b.hit step a.angle b.angle s)

      visit_same : (a : Sample) (n : Option Sample) (s : S) → visit_with r here a n s ≡ visit_with r there a n s
      visit_same a (Some b) s = between_same a b s
      visit_same a None s = refl

      walk_same : (first : Sample) (l : List Sample) (s : S) → walk_with r here first l s ≡ walk_with r there first l s
      unfolding walk_with
      walk_same first [] s = refl
      walk_same first (a ∷ l) s =
          walk_same first l _
          ∙ ap (walk_with r there first l)
          (visit_same a (next_of view.full first l) (emit_with r a.hit one a.angle s) ∙ ap (visit_with r there a (next_of view.full first l)) (emit_same a.hit a.angle s))

      pub sweep_same : (l : List Sample) (s : S) → sweep_with r here l s ≡ sweep_with r there l s
      unfolding sweep_with
      sweep_same [] s = refl
      sweep_same (a ∷ l) s = walk_same a (a ∷ l) s
