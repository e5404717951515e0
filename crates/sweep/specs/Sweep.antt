-- The walk over the samples in order of angle (`visibility.rs`, lines 419 to 510): a run over their list, which makes the outline and the marks.
-- Document 01, "Outlines from a post"; refusal 8: the run is `over` from the moment when a list would pass its entries. One rounding for each operation,
-- in the Rust's order. Definitions only.
use Rattle.std.specs.Prelude.{◌≡◌, ℕ, zero, suc, ◌+◌, ◌-◌, ◌*◌, ◌≤◌, Bool, true, false, cond, ◌&&◌, List, [], ◌∷◌, ◌==◌, nat_lt, slice_index, Float, None, Option, Some}
use Rattle.std.specs.Float.Ieee.{to_unsigned, lt}
use Rattle.num.specs.Ops.{◌⊕◌, ◌⊖◌, ◌⊗◌, ◌⊘◌}
use Rattle.num.specs.Num.{ceil_of}
use Rattle.geom.specs.declared.Vec2.{Vec2}
use Rattle.geom.specs.Constants.{tau}
use Rattle.grid.specs.Range.{count_f}
use Rattle.room.specs.declared.Rooms.{Rooms}
use Rattle.room.specs.declared.Sample.{Sample}
use Rattle.room.specs.Constants.{angle_eps}
use Rattle.room.specs.Layout.{order_w, words_for}
use Rattle.room.specs.Records.{ray_at, dir_at, tie_at}
use Rattle.cone.specs.declared.View.{View}
use Rattle.cone.specs.Cone.{three}
use Rattle.index.specs.declared.AngularIndex.{AngularIndex}
use Rattle.outline.specs.declared.Trace.{Trace}
use Rattle.outline.specs.Outline.{corner, none, Out, out, push_of, Room}
use Rattle.credit.specs.Credit.{own_all}
use Rattle.refining.specs.Refine.{point_of, further_in, Env, env_in, Run, run_at, end_of, refine_of}
use Rattle.seen.specs.Seen.{scene, corners_of, see_of}
use Rattle.std.specs.Prelude.{Option, Some, None}
use Rattle.site.specs.Hits.{hit_at}
use Rattle.site.specs.declared.RayHit.{RayHit}

-- ---- the samples
-- the sample i in order of angle, read from the work room
unfoldable pub sample_in : Rooms → List Float → List ℕ → ℕ → Sample
sample_in k floats words i = ray_at k floats words i

-- its direction
unfoldable pub dir_in : Rooms → List Float → List ℕ → ℕ → Vec2
dir_in k floats words i = dir_at k floats (slice_index words (order_w k + i))

-- whether a tie is noted for it
unfoldable pub tie_in : Rooms → List ℕ → ℕ → Bool
tie_in k words i = tie_at k words (slice_index words (order_w k + i))

-- the two side rays of one event: offsets 0 and 2 stand for -1 and 1
unfoldable pub is_pair : Sample → Sample → Bool
is_pair a b = a.offset == 0 && b.offset == 2 && b.event == a.event

-- the sample a turn later
abbrev pub turned : Sample → Sample
turned s = record { angle = s.angle ⊕ tau; event = s.event; offset = s.offset; hit = s.hit }

-- what follows: the first of the rest; after the last one the first of all, a turn later, in a full circle, and nothing in a sector
abbrev pub next_of : Bool → Sample → List Sample → Option Sample
next_of full first (y ∷ l) = Some y
next_of true first [] = Some (turned first)
next_of false first [] = None

-- the same of the sample i of n, each read by a rule
unfoldable pub next_in : Bool → (ℕ → Sample) → ℕ → ℕ → Option Sample
next_in full at n i = cond (nat_lt (i + 1) n) (Some (at (i + 1))) (cond full (Some (turned (at 0))) None)

-- ---- a sample's own point, and the owners that its hit credits
abbrev pub emit_by : (Option RayHit) → View → ℕ → List ℕ → (Float → ℕ → List ℕ) → Float → Run → Run
emit_by (Some h) view room owners credits angle s =
    let q = own_all room owners (credits angle h.edge) s.marks s.at in
    let u = push_of view.o (point_of view angle (hit_at h.t h.edge)) h.edge s.pts q.at in
    run_at u.pts q.marks u.at
emit_by None view room owners credits angle s =
    let u = push_of view.o (point_of view angle None) corner s.pts s.at in
    run_at u.pts s.marks u.at

unfoldable pub emit_of : View → ℕ → List ℕ → (Float → ℕ → List ℕ) → Sample → Run → Run
emit_of view room owners credits a s = emit_by a.hit view room owners credits a.angle s

-- its own edge alone
abbrev pub itself : Float → ℕ → List ℕ
itself angle e = e ∷ []

-- the cast at its angle has no further credits
abbrev pub Spared : Rooms → AngularIndex → List Float → List ℕ → List ℕ → View → Sample → Type 0
Spared k x floats words owners view a = further_in k x floats words owners view a.angle ≡ []

-- the counts afterwards: within their bounds, no cast more, no owner less
pub record Emitted (l room : ℕ) (s r : Trace) : Type 0 where
  pub points : 2 * r.points ≤ l
  pub owners : Room room r
  pub up : s.owners ≤ r.owners
  pub casts : r.refinements ≡ s.refinements

-- ---- an arc of the range circle
-- how many steps it takes: `(gap / step).ceil() as usize`
unfoldable pub steps_of : Float → Float → ℕ
steps_of gap step = to_unsigned 64 (ceil_of (gap ⊘ step))

-- the point i of so many steps
unfoldable pub arc_point : View → Float → Float → ℕ → ℕ → Vec2
arc_point view angle gap steps i = point_of view (angle ⊕ gap ⊗ count_f i ⊘ count_f steps) None

-- n of its points, from the point i on
unfoldable pub arc_of : View → Float → Float → ℕ → ℕ → ℕ → Out → Out
arc_of view angle gap steps i zero s = s
arc_of view angle gap steps i (suc n) s = arc_of view angle gap steps (suc i) n (push_of view.o (arc_point view angle gap steps i) corner s.pts s.at)

-- those inside it: 1 up to steps
abbrev pub arc_run : View → Float → Float → ℕ → Run → Run
arc_run view angle gap steps s = let q = arc_of view angle gap steps 1 (steps - 1) (out s.pts s.at) in run_at q.pts s.marks q.at

-- ---- between two samples
-- not the sides of one event: two misses are an arc; two hits of different edges, if not too close, are a crossing
abbrev pub gap_by : (Option RayHit) → (Option RayHit) → Env → Float → Float → Float → Run → Run
gap_by None None v step from to s = arc_run v.view from (to ⊖ from) (steps_of (to ⊖ from) step) s
gap_by None (Some h) v step from to s = s
gap_by (Some h) None v step from to s = s
gap_by (Some h) (Some q) v step from to s =
    let r = refine_of v 33 (end_of from h.edge) (end_of to q.edge) s in
    cond (h.edge == q.edge) s (cond (lt (three ⊗ angle_eps) (to ⊖ from)) r s)

unfoldable pub gap_of : Env → Float → Sample → Sample → Run → Run
gap_of v step a b s = gap_by a.hit b.hit v step a.angle b.angle s

-- what the walk goes by: beside the rest the arc's step, the entries allowed to the corners seen, and the corners of each event
pub record Course : Type 0 where
  pub env : Env
  pub step : Float
  pub seen : ℕ
  pub corners : ℕ → List ℕ

-- as it stands in the work room
abbrev pub course_in : Rooms → AngularIndex → List Float → List ℕ → View → Float → List Float → List ℕ → List ℕ → Course
course_in k x floats words view step points polygons owners = record {
  env = env_in k x floats words view points polygons owners;
  step = step;
  seen = k.seen;
  corners = corners_of k floats words;
}

-- the sides of one event: its corners seen between them
abbrev pub corners_run : Course → Sample → Sample → Run → Run
corners_run c a b s =
    let w = scene c.env.view c.env.points c.env.polygons c.env.owners a.hit b.hit in
    let q = see_of w c.seen (c.corners a.event) (out s.pts s.at) in
    run_at q.pts s.marks q.at

unfoldable pub between_of : Course → Sample → Sample → Run → Run
between_of c a b s =
    let p = corners_run c a b s in
    let q = gap_of c.env c.step a b s in
    cond (is_pair a b) p q

-- ---- the walk
-- a sample, and what lies between it and the next one
abbrev pub visit_by : Course → Sample → Option Sample → Run → Run
visit_by c a (Some b) s = between_of c a b s
visit_by c a None s = s

unfoldable pub visit_of : Course → Sample → Option Sample → Run → Run
visit_of c a next s = visit_by c a next (emit_of c.env.view c.env.room c.env.owners c.env.credits a s)

-- the samples that are left, of which the first of all was `first`
unfoldable pub walk_of : Course → Sample → List Sample → Run → Run
walk_of c first [] s = s
walk_of c first (a ∷ l) s = walk_of c first l (visit_of c a (next_of c.env.view.full first l) s)

-- all of them
unfoldable pub sweep_of : Course → List Sample → Run → Run
sweep_of c [] s = s
sweep_of c (a ∷ l) s = walk_of c a (a ∷ l) s

-- where it begins: at the post in a sector
unfoldable pub with_post : View → Out → Out
with_post view s = cond view.full s (push_of view.o view.o corner s.pts s.at)

unfoldable pub begin_of : View → List Float → List ℕ → Run
begin_of view pts marks = let q = with_post view (out pts none) in run_at q.pts marks q.at

-- ---- the counts
-- at the start of a walk: the words hold the room, the points are within the list of l numbers, and there is no owner and no cast yet
pub record Walks (k : Rooms) (words l : ℕ) (s : Trace) : Type 0 where
  pub long : words_for k ≤ words
  pub points : 2 * s.points ≤ l
  pub owners : s.owners ≡ 0
  pub casts : s.refinements ≡ 0

-- at its end, after n samples: the casts of refining are at most two for each owner, and one for each sample
pub record Swept (k : Rooms) (l n : ℕ) (r : Trace) : Type 0 where
  pub points : 2 * r.points ≤ l
  pub owners : Room k.owners r
  pub casts : r.refinements ≤ 2 * r.owners + n
