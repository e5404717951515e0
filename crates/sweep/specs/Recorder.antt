-- The same walk over any recorder of what it finds: points, owners, casts of refining, and the corners seen at an event. Two recorders are of interest.
-- `bounded` keeps them in lent lists and is over once a list has passed its entries: with it the walk is `sweep_of` (proofs/Exact.antt, `sweep_bounded`).
-- `free` keeps them as the Rust does (`visibility.rs`, lines 419 to 510), in lists that grow without end; beside them, the longest list of corners seen. Each
-- entry of the owners is a credit of the course, in mode 0 the edge answered as in the Rust.
-- That the first is over exactly where the second passes the entries is `exact`, there: refusal 8 of document 01. Definitions only.
use Rattle.std.specs.Prelude.{ℕ, zero, suc, ◌+◌, ◌-◌, ◌*◌, max, Bool, cond, ◌||◌, List, [], ◌∷◌, ◌++◌, length, take, ◌==◌, nat_lt, Float, None, Option, Some}
use Rattle.std.specs.Float.Ieee.{lt}
use Rattle.num.specs.Ops.{◌⊖◌, ◌⊗◌, zero_f}
use Rattle.geom.specs.declared.Vec2.{Vec2}
use Rattle.site.specs.Tables.{point_at}
use Rattle.room.specs.declared.Sample.{Sample}
use Rattle.cone.specs.declared.View.{View}
use Rattle.cone.specs.Cone.{three}
use Rattle.outline.specs.declared.Trace.{Trace}
use Rattle.outline.specs.Outline.{corner, none, Out, out, push_of, own_of}
use Rattle.refining.specs.declared.End.{End}
use Rattle.refining.specs.declared.Turn.{Turn}
use Rattle.refining.specs.declared.Turn.TheVariants.{Stop, Open, Hidden}
use Rattle.refining.specs.Refine.{point_of, Env, crossing_of, end_of, turn_of, Run, run_at, counting, pushing}
use Rattle.seen.specs.Seen.{scene, seen_of, push_all, passed}
use Rattle.std.specs.Prelude.{Option, Some, None}
use Rattle.room.specs.Constants.{angle_eps}
use Rattle.sweep.specs.Sweep.{is_pair, next_of, steps_of, arc_point, Course}
use Rattle.site.specs.Hits.{hit_at}
use Rattle.site.specs.declared.RayHit.{RayHit}

pub record Recorder (S : Type 0) : Type 0 where
  pub push : Vec2 → ℕ → S → S
  pub own : ℕ → S → S
  -- a cast of refining, at an angle
  pub cast : Float → S → S
  pub see : List ℕ → S → S

module _ {S : Type 0} (r : Recorder S) where
  -- ---- the entries of a hit, one after the other
  abbrev pub owns_with : List ℕ → S → S
  owns_with [] s = s
  owns_with (e ∷ l) s = owns_with l (r.own e s)

  -- ---- refining
  -- `turn_of` casts at the crossing's angle, and not where it answers `Stop` (`turn_cast` of proofs/Visible.antt)
  abbrev pub halve_with : (End → End → S → S) → Env → End → End → Turn → S → S
  halve_with again v a b Stop s = s
  halve_with again v a b (Open p) s = r.push p corner (r.cast (crossing_of v.view a.angle p) s)
  halve_with again v a b (Hidden p g e) s = again (end_of g e) b (r.push p e (again a (end_of g e) (owns_with (v.credits g e) (r.cast g s))))

  unfoldable pub refine_with : Env → ℕ → End → End → S → S
  refine_with v zero a b s = s
  refine_with v (suc f) a b s = halve_with (refine_with v f) v a b (turn_of v a b) s

  -- ---- a sample, and what lies between two
  abbrev pub emit_with : (Option RayHit) → Env → Float → S → S
  emit_with (Some h) v angle s = r.push (point_of v.view angle (hit_at h.t h.edge)) h.edge (owns_with (v.credits angle h.edge) s)
  emit_with None v angle s = r.push (point_of v.view angle None) corner s

  unfoldable pub arc_with : View → Float → Float → ℕ → ℕ → ℕ → S → S
  arc_with view angle gap steps i zero s = s
  arc_with view angle gap steps i (suc n) s = arc_with view angle gap steps (suc i) n (r.push (arc_point view angle gap steps i) corner s)

  abbrev pub gap_with : (Option RayHit) → (Option RayHit) → Env → Float → Float → Float → S → S
  gap_with None None v step from to s =
      let steps = steps_of (to ⊖ from) step in arc_with v.view from (to ⊖ from) steps 1 (steps - 1) s
  gap_with None (Some h) v step from to s = s
  gap_with (Some h) None v step from to s = s
  gap_with (Some h) (Some q) v step from to s =
      cond (h.edge == q.edge) s (cond (lt (three ⊗ angle_eps) (to ⊖ from)) (refine_with v 33 (end_of from h.edge) (end_of to q.edge) s) s)

  unfoldable pub between_with : Course → Sample → Sample → S → S
  between_with c a b s =
      let w = scene c.env.view c.env.points c.env.polygons c.env.owners a.hit b.hit in
      cond (is_pair a b) (r.see (seen_of w (c.corners a.event)) s) (gap_with a.hit b.hit c.env c.step a.angle b.angle s)

  -- ---- the walk
  abbrev pub visit_with : Course → Sample → Option Sample → S → S
  visit_with c a (Some b) s = between_with c a b s
  visit_with c a None s = s

  unfoldable pub walk_with : Course → Sample → List Sample → S → S
  walk_with c first [] s = s
  walk_with c first (a ∷ l) s =
      walk_with c first l (visit_with c a (next_of c.env.view.full first l) (emit_with a.hit c.env a.angle s))

  unfoldable pub sweep_with : Course → List Sample → S → S
  sweep_with c [] s = s
  sweep_with c (a ∷ l) s = walk_with c a (a ∷ l) s

-- ---- in lent lists, where `seen` corners are allowed; a run that is over stays as it is
-- one owner more
abbrev pub own_one : Env → ℕ → Run → Run
own_one v e s = let q = own_of v.room v.owners e s.marks s.at in run_at s.pts q.marks q.at

abbrev pub bounded : Env → ℕ → Recorder Run
bounded v seen = record {
  push = pushing v.view.o;
  own = own_one v;
  cast = λ _ s. cond s.at.over s (counting s);
  see = λ l s.
      let q = cond (nat_lt seen (length l)) (out s.pts (passed s.at)) (push_all v.view.o v.points l (out s.pts s.at)) in
      run_at q.pts s.marks q.at;
}

-- ---- in lists that grow: a point is pushed into a list with two numbers more, and an owner into room for one more
abbrev pub free_push : Vec2 → Vec2 → ℕ → Out → Out
free_push o p tag s =
    let q = push_of o p tag (s.pts ++ (zero_f ∷ zero_f ∷ [])) s.at in out (take (2 * q.at.points) q.pts) q.at

abbrev pub free_all : Vec2 → List Float → List ℕ → Out → Out
free_all o points [] s = s
free_all o points (c ∷ cs) s = free_all o points cs (free_push o (point_at points c) corner s)

-- the run, the most corners seen at one event, the entries of `owners`, and the angles of the rays that refining cast, the last one first
pub record Free : Type 0 where
  pub run : Run
  pub most : ℕ
  pub entries : List ℕ
  pub rays : List Float

abbrev pub free_at : List Float → List ℕ → Trace → ℕ → List ℕ → List Float → Free
free_at pts marks at most entries rays = record { run = run_at pts marks at; most = most; entries = entries; rays = rays }

abbrev pub free : Env → Recorder Free
free v = record {
  push = λ p tag f. let q = free_push v.view.o p tag (out f.run.pts f.run.at) in free_at q.pts f.run.marks q.at f.most f.entries f.rays;
  own = λ e f.
      let q = own_of (f.run.at.owners + 1) v.owners e f.run.marks f.run.at in free_at f.run.pts q.marks q.at f.most (e ∷ f.entries) f.rays;
  cast = λ g f. record { run = counting f.run; most = f.most; entries = f.entries; rays = g ∷ f.rays };
  see = λ l f.
      let q = free_all v.view.o v.points l (out f.run.pts f.run.at) in
      free_at q.pts f.run.marks q.at (max f.most (length l)) f.entries f.rays;
}

-- where it begins
abbrev pub free_begin : View → List ℕ → Free
free_begin view marks =
    let q = cond view.full (out [] none) (free_push view.o view.o corner (out [] none)) in free_at q.pts marks q.at 0 [] []

-- the whole walk as the Rust makes it, by the casts and credits of the course. In mode 0 these are the Rust's (`rust_growing`, crate `stages`)
abbrev pub as_rust : Course → List Sample → List ℕ → Free
as_rust c l marks = sweep_with (free c.env) c l (free_begin c.env.view marks)

-- a list is longer than its entries: so many numbers of the outline, owners, and corners seen
abbrev pub passes : ℕ → ℕ → ℕ → Free → Bool
passes l room seen f = nat_lt l (2 * f.run.at.points) || (nat_lt room f.run.at.owners || nat_lt seen f.most)
