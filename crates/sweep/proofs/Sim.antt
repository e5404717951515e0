-- Two recorders of one walk: what each of their steps keeps, the walk keeps. Assumes nothing.
use Rattle.std.proofs.Common.{ℕ, zero, suc, ◌-◌, Bool, true, false, cond, eqb, List, [], ◌∷◌, refl, inl, inr, None, Option, Some}
use lib.Ieee.{Float, lt}
use Rattle.lists.specs.Members.{In}
use Rattle.num.specs.Ops.{◌⊖◌, ◌⊗◌}
use Rattle.geom.specs.declared.Vec2.{Vec2}
use Rattle.room.specs.declared.Sample.{Sample}
use Rattle.cone.specs.declared.View.{View}
use Rattle.cone.specs.Cone.{three}
use Rattle.outline.specs.Outline.{corner}
use Rattle.refining.specs.declared.End.{End}
use Rattle.refining.specs.declared.Turn.{Turn}
use Rattle.refining.specs.declared.Turn.TheVariants.{Stop, Open, Hidden}
use Rattle.refining.specs.Refine.{point_of, Env, crossing_of, end_of, turn_of}
use Rattle.seen.specs.Seen.{scene, seen_of}
use Rattle.std.specs.Prelude.{Option, Some, None}
use Rattle.room.specs.Constants.{angle_eps}
use Rattle.sweep.specs.Sweep.{is_pair, next_of, steps_of, arc_point, Course}
use Rattle.sweep.specs.Recorder.{Recorder, owns_with, halve_with, refine_with, emit_with, arc_with, gap_with, between_with, visit_with, walk_with, sweep_with}
use Rattle.site.specs.Hits.{hit_at}
use Rattle.site.specs.declared.RayHit.{RayHit}

-- the credits of an edge that hides a crossing at an angle have a property, and so have those of one that a sample's ray hits
abbrev pub Turns : Env → (Float → List ℕ → Type 0) → Turn → Type 0
Turns v H Stop = Unit {0}
Turns v H (Open p) = Unit {0}
Turns v H (Hidden p w e) = H w (v.credits w e)

abbrev pub HitsAt : Env → (List ℕ → Type 0) → Float → (Option RayHit) → Type 0
HitsAt v E angle (Some h) = E (v.credits angle h.edge)
HitsAt v E angle None = Unit {0}

turns_any : (v : Env) (t : Turn) → Turns v (λ _ _. Unit {0}) t
turns_any v Stop = tt
turns_any v (Open p) = tt
turns_any v (Hidden p w e) = tt

hits_any : (v : Env) (angle : Float) (h : (Option RayHit)) → HitsAt v (λ _. Unit {0}) angle h
hits_any v angle (Some h) = tt
hits_any v angle None = tt

-- what one entry keeps, several keep
owns_each : {S T : Type 0} (r : Recorder S) (q : Recorder T) (R : S → T → Type 0) → ((e : ℕ) (s : S) (u : T) → R s u → R (r.own e s) (q.own e u))
    → (l : List ℕ) (s : S) (u : T) → R s u → R (owns_with r l s) (owns_with q l u)
owns_each r q R own [] s u k = k
owns_each r q R own (e ∷ l) s u k = owns_each r q R own l (r.own e s) (q.own e u) (own e s u k)

module _ {S T : Type 0} (r : Recorder S) (q : Recorder T) (R : S → T → Type 0) (H : Float → List ℕ → Type 0) (E : List ℕ → Type 0)
    (push : (p : Vec2) (tag : ℕ) (s : S) (u : T) → R s u → R (r.push p tag s) (q.push p tag u)) (owns : (l : List ℕ) → E l → (s : S) (u : T) → R s u → R (owns_with r l s) (owns_with q l u))
    (cast : (g : Float) (s : S) (u : T) → R s u → R (r.cast g s) (q.cast g u))
    (hide : (g : Float) (l : List ℕ) → H g l → (s : S) (u : T) → R s u → R (owns_with r l (r.cast g s)) (owns_with q l (q.cast g u))) (see : (l : List ℕ) (s : S) (u : T) → R s u → R (r.see l s) (q.see l u)) where
  sim_cond : (t : Bool) (s s2 : S) (u u2 : T) → R s u → R s2 u2 → R (cond t s s2) (cond t u u2)
  sim_cond true s s2 u u2 h k = h
  sim_cond false s s2 u u2 h k = k

  sim_halve : (f : End → End → S → S) (g : End → End → T → T) → ((a b : End) (s : S) (u : T) → R s u → R (f a b s) (g a b u)) → (v : Env) (a b : End) (t : Turn) → Turns v H t → (s : S) (u : T) → R s u
      → R (halve_with r f v a b t s) (halve_with q g v a b t u)
  sim_halve f g h v a b Stop ht s u k = k
  sim_halve f g h v a b (Open p) ht s u k =
      let w = crossing_of v.view a.angle p in push p corner (r.cast w s) (q.cast w u) (cast w s u k)
  sim_halve f g h v a b (Hidden p w e) ht s u k =
      let s2 = owns_with r (v.credits w e) (r.cast w s) in
      let u2 = owns_with q (v.credits w e) (q.cast w u) in
      let k2 : R s2 u2 = hide w (v.credits w e) ht s u k in
      h (end_of w e) b (r.push p e (f a (end_of w e) s2)) (q.push p e (g a (end_of w e) u2)) (push p e (f a (end_of w e) s2) (g a (end_of w e) u2) (h a (end_of w e) s2 u2 k2))

  sim_refine : (v : Env) → ((a b : End) → Turns v H (turn_of v a b)) → (n : ℕ) (a b : End) (s : S) (u : T) → R s u → R (refine_with r v n a b s) (refine_with q v n a b u)
  unfolding refine_with
  sim_refine v hv zero a b s u k = k
  sim_refine v hv (suc n) a b s u k = sim_halve (refine_with r v n) (refine_with q v n) (sim_refine v hv n) v a b (turn_of v a b) (hv a b) s u k

  sim_emit : (v : Env) (angle : Float) (h : (Option RayHit)) → HitsAt v E angle h → (s : S) (u : T) → R s u → R (emit_with r h v angle s) (emit_with q h v angle u)
  sim_emit v angle (Some h) hh s u k =
      let l = v.credits angle h.edge in push (point_of v.view angle (hit_at h.t h.edge)) h.edge (owns_with r l s) (owns_with q l u) (owns l hh s u k)
  sim_emit v angle None hh s u k = push (point_of v.view angle None) corner s u k

  sim_arc : (view : View) (angle gap : Float) (steps i n : ℕ) (s : S) (u : T) → R s u → R (arc_with r view angle gap steps i n s) (arc_with q view angle gap steps i n u)
  unfolding arc_with
  sim_arc view angle gap steps i zero s u k = k
  sim_arc view angle gap steps i (suc n) s u k =
      let p = arc_point view angle gap steps i in sim_arc view angle gap steps (suc i) n (r.push p corner s) (q.push p corner u) (push p corner s u k)

  sim_gap : (h g : (Option RayHit)) (v : Env) → ((a b : End) → Turns v H (turn_of v a b)) → (step from to : Float) (s : S) (u : T) → R s u → R (gap_with r h g v step from to s) (gap_with q h g v step from to u)
  sim_gap None None v hv step from to s u k = sim_arc v.view from (to ⊖ from) (steps_of (to ⊖ from) step) 1 (steps_of (to ⊖ from) step - 1) s u k
  sim_gap None (Some h) v hv step from to s u k = k
  sim_gap (Some h) None v hv step from to s u k = k
  sim_gap (Some h) (Some g) v hv step from to s u k =
      let y = refine_with r v 33 (end_of from h.edge) (end_of to g.edge) s in
      let z = refine_with q v 33 (end_of from h.edge) (end_of to g.edge) u in
      let d = lt (three ⊗ angle_eps) (to ⊖ from) in
      sim_cond (eqb h.edge g.edge) s (cond d y s) u (cond d z u) k (sim_cond d y s z u (sim_refine v hv 33 (end_of from h.edge) (end_of to g.edge) s u k) k)

  sim_between : (c : Course) → ((a b : End) → Turns c.env H (turn_of c.env a b)) → (a b : Sample) (s : S) (u : T) → R s u → R (between_with r c a b s) (between_with q c a b u)
  unfolding between_with
  sim_between c hv a b s u k =
      let l = seen_of (scene c.env.view c.env.points c.env.polygons c.env.owners a.hit b.hit) (c.corners a.event) in
      sim_cond (is_pair a b) (r.see l s) (gap_with r a.hit b.hit c.env c.step a.angle b.angle s) (q.see l u)
      (gap_with q a.hit b.hit c.env c.step a.angle b.angle u) (see l s u k)
      (sim_gap a.hit b.hit c.env hv c.step a.angle b.angle s u k)

  sim_visit : (c : Course) → ((a b : End) → Turns c.env H (turn_of c.env a b)) → (a : Sample) (n : Option Sample) (s : S) (u : T) → R s u → R (visit_with r c a n s) (visit_with q c a n u)
  sim_visit c hv a (Some b) s u k = sim_between c hv a b s u k
  sim_visit c hv a None s u k = k

  sim_walk : (c : Course) → ((a b : End) → Turns c.env H (turn_of c.env a b)) → (first : Sample) (l : List Sample) → ((a : Sample) → In a l → HitsAt c.env E a.angle a.hit) → (s : S) (u : T) → R s u → R (walk_with r c first l s) (walk_with q c first l u)
  unfolding walk_with
  sim_walk c hv first [] hl s u k = k
  sim_walk c hv first (a ∷ l) hl s u k =
      let n = next_of c.env.view.full first l in
      let s2 = emit_with r a.hit c.env a.angle s in
      let u2 = emit_with q a.hit c.env a.angle u in
      sim_walk c hv first l (λ b i. hl b (inr i)) (visit_with r c a n s2) (visit_with q c a n u2) (sim_visit c hv a n s2 u2 (sim_emit c.env a.angle a.hit (hl a (inl refl)) s u k))

  pub sim_sweep : (c : Course) → ((a b : End) → Turns c.env H (turn_of c.env a b)) → (l : List Sample) → ((a : Sample) → In a l → HitsAt c.env E a.angle a.hit) → (s : S) (u : T) → R s u → R (sweep_with r c l s) (sweep_with q c l u)
  unfolding sweep_with
  sim_sweep c hv [] hl s u k = k
  sim_sweep c hv (a ∷ l) hl s u k = sim_walk c hv a (a ∷ l) hl s u k

-- where nothing is asked of the edges
module _ {S T : Type 0} (r : Recorder S) (q : Recorder T) (R : S → T → Type 0) (push : (p : Vec2) (tag : ℕ) (s : S) (u : T) → R s u → R (r.push p tag s) (q.push p tag u))
    (own : (e : ℕ) (s : S) (u : T) → R s u → R (r.own e s) (q.own e u)) (cast : (g : Float) (s : S) (u : T) → R s u → R (r.cast g s) (q.cast g u))
    (see : (l : List ℕ) (s : S) (u : T) → R s u → R (r.see l s) (q.see l u)) where
  hidden : (g : Float) (l : List ℕ) → Unit {0} → (s : S) (u : T) → R s u → R (owns_with r l (r.cast g s)) (owns_with q l (q.cast g u))
  hidden g l _ s u k = owns_each r q R own l (r.cast g s) (q.cast g u) (cast g s u k)

  owned : (l : List ℕ) → Unit {0} → (s : S) (u : T) → R s u → R (owns_with r l s) (owns_with q l u)
  owned l _ s u k = owns_each r q R own l s u k

  pub any_half : (v : Env) (n : ℕ) (a b : End) (t : Turn) (s : S) (u : T) → R s u → R (halve_with r (refine_with r v n) v a b t s) (halve_with q (refine_with q v n) v a b t u)
  any_half v n a b t s u k =
      sim_halve r q R (λ _ _. Unit {0}) (λ _. Unit {0}) push owned cast hidden see (refine_with r v n) (refine_with q v n)
      (sim_refine r q R (λ _ _. Unit {0}) (λ _. Unit {0}) push owned cast hidden see v (λ a b. turns_any v (turn_of v a b)) n) v a b t (turns_any v t) s u k

  pub any_visit : (c : Course) (a : Sample) (n : Option Sample) (s : S) (u : T) → R s u → R (visit_with r c a n s) (visit_with q c a n u)
  any_visit c = sim_visit r q R (λ _ _. Unit {0}) (λ _. Unit {0}) push owned cast hidden see c (λ a b. turns_any c.env (turn_of c.env a b))

  pub any_walk : (c : Course) (first : Sample) (l : List Sample) (s : S) (u : T) → R s u → R (walk_with r c first l s) (walk_with q c first l u)
  any_walk c first l =
      sim_walk r q R (λ _ _. Unit {0}) (λ _. Unit {0}) push owned cast hidden see c (λ a b. turns_any c.env (turn_of c.env a b)) first l (λ a i. hits_any c.env a.angle a.hit)

  pub any_sweep : (c : Course) (l : List Sample) (s : S) (u : T) → R s u → R (sweep_with r c l s) (sweep_with q c l u)
  any_sweep c l =
      sim_sweep r q R (λ _ _. Unit {0}) (λ _. Unit {0}) push owned cast hidden see c (λ a b. turns_any c.env (turn_of c.env a b)) l (λ a i. hits_any c.env a.angle a.hit)
