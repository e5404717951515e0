-- The walk in lent lists is the walk over the recorder `bounded`. Assumes nothing.
use Rattle.std.proofs.Common.{◌≡◌, ℕ, zero, suc, ◌-◌, Bool, true, false, cond, eqb, ltb, List, [], ◌∷◌, length, sym, refl, ap, ◌∙◌, None, Option, Some}
use lib.Ieee.{Float, lt}
use Rattle.num.specs.Ops.{◌⊖◌, ◌⊗◌}
use Rattle.geom.specs.declared.Vec2.{Vec2}
use Rattle.site.specs.Tables.{point_at}
use Rattle.room.specs.declared.Sample.{Sample}
use Rattle.cone.specs.Cone.{three}
use Rattle.outline.specs.declared.Trace.{Trace}
use Rattle.outline.specs.Outline.{corner, Out, out, Own}
use Rattle.outline.proofs.Ways.{place_over, push_by, own_over}
use Rattle.refining.specs.declared.End.{End}
use Rattle.refining.specs.declared.Turn.{Turn}
use Rattle.refining.specs.declared.Turn.TheVariants.{Stop, Open, Hidden}
use Rattle.refining.specs.Refine.{point_of, Env, end_of, turn_of, Run, run_at, counting, pushing, owning, halve, refine_of}
use Rattle.seen.specs.Seen.{scene, seen_of, push_all, passed, see_of}
use Rattle.std.specs.Prelude.{Option, Some, None}
use Rattle.room.specs.Constants.{angle_eps}
use Rattle.sweep.specs.Sweep.{is_pair, next_of, emit_of, steps_of, arc_point, arc_of, gap_of, Course, between_of, visit_of, walk_of, sweep_of}
use Rattle.sweep.specs.Recorder.{own_one, owns_with, halve_with, refine_with, emit_with, arc_with, gap_with, between_with, visit_with, walk_with, sweep_with, bounded}
use Rattle.sweep.proofs.Sim.{any_half}
use Rattle.site.specs.Hits.{hit_at}
use Rattle.site.specs.declared.RayHit.{RayHit}

-- ---- a run that is over stays as it is
module _ (o : Vec2) (s : Run) (h : s.at.over ≡ true) where
  pub push_stays : (p : Vec2) (tag : ℕ) → pushing o p tag s ≡ s
  push_stays p tag = ap (λ (q : Out). run_at q.pts s.marks q.at) (sym (push_by s.pts s.at tag o p (place_over s.pts s.at tag o p h) refl))

  pub all_stays : (points : List Float) (l : List ℕ) → push_all o points l (out s.pts s.at) ≡ out s.pts s.at
  unfolding push_all
  all_stays points [] = refl
  all_stays points (c ∷ l) =
      ap (push_all o points l) (sym (push_by s.pts s.at corner o (point_at points c) (place_over s.pts s.at corner o (point_at points c) h) refl))
      ∙ all_stays points l

pub own_stays : (v : Env) (s : Run) → s.at.over ≡ true → (e : ℕ) → own_one v e s ≡ s
own_stays v s h e = ap (λ (q : Own). run_at s.pts q.marks q.at) (sym (own_over v.room v.owners e s.marks s.at h))

passed_same : (t : Trace) → t.over ≡ true → passed t ≡ t
passed_same t h = rw (sym h)

module _ (v : Env) (seen : ℕ) where
  see_stays : (l : List ℕ) (s : Run) → s.at.over ≡ true → (bounded v seen).see l s ≡ s
  see_stays l s h = by (ltb seen (length l))
    where
      by : (t : Bool)
          → run_at (cond t (out s.pts (passed s.at)) (push_all v.view.o v.points l (out s.pts s.at))).pts s.marks
          (cond t (out s.pts (passed s.at)) (push_all v.view.o v.points l (out s.pts s.at))).at
          ≡ s
      by true = ap (run_at s.pts s.marks) (passed_same s.at h)
      by false = ap (λ (q : Out). run_at q.pts s.marks q.at) (all_stays v.view.o s h v.points l)

  -- by the walk's own steps
  module _ (s : Run) (h : s.at.over ≡ true) where
    to : {x : Run} (f : Run → Run) → x ≡ s → f s ≡ s → f x ≡ s
    to f e k = ap f e ∙ k

    cast_stays : (g : Float) → (bounded v seen).cast g s ≡ s
    cast_stays g = rw h

    half_stays : (f : ℕ) (a b : End) (t : Turn) → halve_with (bounded v seen) (refine_with (bounded v seen) v f) v a b t s ≡ s
    half_stays f a b t =
        any_half (bounded v seen) (bounded v seen) (λ (x y : Run). x ≡ s) (λ p tag x y e. to (pushing v.view.o p tag) e (push_stays v.view.o s h p tag)) (λ w x y e. to (own_one v w) e (own_stays v s h w))
        (λ g x y e. to ((bounded v seen).cast g) e (cast_stays g)) (λ l x y e. to ((bounded v seen).see l) e (see_stays l s h)) v f a b t s s refl

  -- ---- the entries of a hit
  owns_bounded : (l : List ℕ) (s : Run) → owning v l s ≡ owns_with (bounded v seen) l s
  owns_bounded [] s = refl
  owns_bounded (e ∷ l) s = owns_bounded l (own_one v e s)

  -- ---- refining
  cast_goes : (s : Run) → s.at.over ≡ false → cond s.at.over s (counting s) ≡ counting s
  cast_goes s h = ap (λ (x : Bool). cond x s (counting s)) h

  same_half : (f : ℕ) → ((a b : End) (s : Run) → refine_of v f a b s ≡ refine_with (bounded v seen) v f a b s) → (a b : End) (t : Turn) (s : Run) → s.at.over ≡ false
      → halve (refine_of v f) v a b t s ≡ halve_with (bounded v seen) (refine_with (bounded v seen) v f) v a b t s
  same_half f ih a b Stop s h = refl
  same_half f ih a b (Open p) s h = ap (pushing v.view.o p corner) (sym (cast_goes s h))
  same_half f ih a b (Hidden p g e) s h =
      let l = v.credits g e in
      ap (λ (x : Run). refine_of v f (end_of g e) b (pushing v.view.o p e x)) (ih a (end_of g e) (owning v l (counting s)))
      ∙ ih (end_of g e) b (pushing v.view.o p e (refine_with (bounded v seen) v f a (end_of g e) (owning v l (counting s))))
      ∙ ap (λ (x : Run). refine_with (bounded v seen) v f (end_of g e) b (pushing v.view.o p e (refine_with (bounded v seen) v f a (end_of g e) x)))
      (owns_bounded l (counting s) ∙ ap (owns_with (bounded v seen) l) (sym (cast_goes s h)))

  refine_step : (f : ℕ) → ((a b : End) (s : Run) → refine_of v f a b s ≡ refine_with (bounded v seen) v f a b s) → (a b : End) (s : Run) (t : Bool) → s.at.over ≡ t
      → refine_of v (suc f) a b s ≡ refine_with (bounded v seen) v (suc f) a b s
  unfolding refine_of refine_with
  refine_step f ih a b s true h =
      ap (λ (x : Bool). cond x s (halve (refine_of v f) v a b (turn_of v a b) s)) h ∙ sym (half_stays s h f a b (turn_of v a b))
  refine_step f ih a b s false h =
      ap (λ (x : Bool). cond x s (halve (refine_of v f) v a b (turn_of v a b) s)) h ∙ same_half f ih a b (turn_of v a b) s h

  refine_bounded : (f : ℕ) (a b : End) (s : Run) → refine_of v f a b s ≡ refine_with (bounded v seen) v f a b s
  unfolding refine_of refine_with
  refine_bounded zero a b s = refl
  refine_bounded (suc f) a b s = refine_step f (refine_bounded f) a b s s.at.over refl

  -- ---- a sample, and what lies between two
  emit_bounded : (a : Sample) (s : Run) (h : (Option RayHit)) → a.hit ≡ h → emit_of v.view v.room v.owners v.credits a s ≡ emit_with (bounded v seen) h v a.angle s
  unfolding emit_of
  emit_bounded a s (Some h) x = rw x (ap (pushing v.view.o (point_of v.view a.angle (hit_at h.t h.edge)) h.edge) (owns_bounded (v.credits a.angle h.edge) s))
  emit_bounded a s None x = rw x

  arc_bounded : (angle gap : Float) (steps i n : ℕ) (s : Run)
      → run_at (arc_of v.view angle gap steps i n (out s.pts s.at)).pts s.marks (arc_of v.view angle gap steps i n (out s.pts s.at)).at
      ≡ arc_with (bounded v seen) v.view angle gap steps i n s
  unfolding arc_of arc_with
  arc_bounded angle gap steps i zero s = refl
  arc_bounded angle gap steps i (suc n) s = arc_bounded angle gap steps (suc i) n (pushing v.view.o (arc_point v.view angle gap steps i) corner s)

  gap_bounded : (step : Float) (a b : Sample) (s : Run) (h g : (Option RayHit)) → a.hit ≡ h → b.hit ≡ g → gap_of v step a b s ≡ gap_with (bounded v seen) h g v step a.angle b.angle s
  unfolding gap_of
  gap_bounded step a b s None None x y =
      rw (x, y) (arc_bounded a.angle (b.angle ⊖ a.angle) (steps_of (b.angle ⊖ a.angle) step) 1 (steps_of (b.angle ⊖ a.angle) step - 1) s)
  gap_bounded step a b s None (Some h) x y = rw (x, y)
  gap_bounded step a b s (Some h) None x y = rw (x, y)
  gap_bounded step a b s (Some h) (Some q) x y =
      rw (x, y)
      (ap (λ (z : Run). cond (eqb h.edge q.edge) s (cond (lt (three ⊗ angle_eps) (b.angle ⊖ a.angle)) z s)) (refine_bounded 33 (end_of a.angle h.edge) (end_of b.angle q.edge) s))

-- ---- the walk
module _ (c : Course) where
  between_bounded : (a b : Sample) (s : Run) → between_of c a b s ≡ between_with (bounded c.env c.seen) c a b s
  unfolding between_of between_with see_of
  between_bounded a b s =
      ap (λ (q : Run). cond (is_pair a b) ((bounded c.env c.seen).see (seen_of (scene c.env.view c.env.points c.env.polygons c.env.owners a.hit b.hit) (c.corners a.event)) s) q)
      (gap_bounded c.env c.seen c.step a b s a.hit b.hit refl refl)

  visit_bounded : (a : Sample) (n : Option Sample) (s : Run)
      → visit_of c a n s ≡ visit_with (bounded c.env c.seen) c a n (emit_with (bounded c.env c.seen) a.hit c.env a.angle s)
  unfolding visit_of
  visit_bounded a (Some b) s =
      ap (between_of c a b) (emit_bounded c.env c.seen a s a.hit refl)
      ∙ between_bounded a b (emit_with (bounded c.env c.seen) a.hit c.env a.angle s)
  visit_bounded a None s = emit_bounded c.env c.seen a s a.hit refl

  walk_bounded : (first : Sample) (l : List Sample) (s : Run) → walk_of c first l s ≡ walk_with (bounded c.env c.seen) c first l s
  unfolding walk_of walk_with
  walk_bounded first [] s = refl
  walk_bounded first (a ∷ l) s =
      ap (walk_of c first l) (visit_bounded a (next_of c.env.view.full first l) s)
      ∙ walk_bounded first l (visit_with (bounded c.env c.seen) c a (next_of c.env.view.full first l) (emit_with (bounded c.env c.seen) a.hit c.env a.angle s))

  -- the walk in lent lists is the walk over the recorder of lent lists
  pub sweep_bounded : (l : List Sample) (s : Run) → sweep_of c l s ≡ sweep_with (bounded c.env c.seen) c l s
  unfolding sweep_of sweep_with
  sweep_bounded [] s = refl
  sweep_bounded (a ∷ l) s = walk_bounded a (a ∷ l) s
