-- Refining between two hits (`visibility.rs`, `Sweep::refine`, lines 643 to 681) as a recursion on fuel over a run: the outline's numbers, the marks
-- and the counts. Document 01: "Refining between two hits calls itself on both halves and stops past depth 32; `refinements` counts the casts it makes".
-- One rounding for each operation, in the Rust's order. Definitions only.
use Rattle.std.specs.Prelude.{Bool, ◌&&◌, cond, List, ℕ, zero, suc, ◌+◌, ◌*◌, ◌^◌, ◌≤◌, ◌<◌, eqb, Float, None, Option, Some}
use Rattle.std.specs.Float.Ieee.{lt}
use Rattle.num.specs.Ops.{◌⊕◌, ◌⊖◌, ◌⊗◌, one_f}
use Rattle.num.specs.Num.{max_of}
use Rattle.geom.specs.declared.Vec2.{Vec2}
use Rattle.geom.specs.Constants.{tau, nano}
use Rattle.geom.specs.Vec.{add_of, sub_of, mul_of, distance_of, angle_of, from_angle_of}
use Rattle.geom.specs.Segment.{normal_of, segment_intersection_of}
use Rattle.site.specs.declared.Ends.{Ends}
use Rattle.site.specs.Tables.{edge_of}
use Rattle.room.specs.declared.Rooms.{Rooms}
use Rattle.cone.specs.declared.View.{View}
use Rattle.cone.specs.Cone.{rim_of}
use Rattle.index.specs.declared.AngularIndex.{AngularIndex}
use Rattle.index.specs.Angular.{Index}
use Rattle.index.specs.Casting.{cast_of}
use Rattle.index.specs.Stands.{index_in}
use Rattle.outline.specs.declared.Trace.{Trace}
use Rattle.outline.specs.Outline.{corner, trace, push_of, Room}
use Rattle.credit.specs.Credit.{further_of, credits_of, own_all}
use Rattle.refining.specs.declared.End.{End}
use Rattle.refining.specs.declared.Turn.{Turn}
use Rattle.refining.specs.declared.Turn.TheVariants.{Stop, Open, Hidden}
use Rattle.site.specs.Hits.{hit_at}
use Rattle.site.specs.declared.RayHit.{RayHit}

-- ---- a ray of the sweep
-- how far it goes: `hit.map_or(r, |h| h.t)`
abbrev pub reach_of : Float → (Option RayHit) → Float
reach_of r (Some h) = h.t
reach_of r None = r

-- where it ends, in a direction
unfoldable pub along_of : View → Vec2 → (Option RayHit) → Vec2
along_of view dir hit = add_of view.o (mul_of dir (reach_of view.r hit))

-- where it ends, at an angle: the point along that angle's direction (`along_is`, proofs/Ways.antt)
unfoldable pub point_of : View → Float → (Option RayHit) → Vec2
point_of view angle hit = rim_of view.o (reach_of view.r hit) (view.start ⊕ angle)

-- what it hits: the cast of the index that the work room holds
unfoldable pub cast_in : Rooms → AngularIndex → List Float → List ℕ → View → Float → Option RayHit
cast_in k x floats words view angle = cast_of (index_in k floats words x) view.o angle (from_angle_of (view.start ⊕ angle)) view.r

-- the edges that have an entry where it hits the edge e, by the index
unfoldable pub credits_for : View → Index → List ℕ → Float → ℕ → List ℕ
credits_for view x owners angle e = credits_of x owners view.o angle (from_angle_of (view.start ⊕ angle)) view.r e

-- the further ones alone
abbrev pub further_in : Rooms → AngularIndex → List Float → List ℕ → List ℕ → View → Float → List ℕ
further_in k x floats words owners view angle = further_of (index_in k floats words x) owners view.o angle (from_angle_of (view.start ⊕ angle)) view.r

abbrev pub credits_in : Rooms → AngularIndex → List Float → List ℕ → List ℕ → View → Float → ℕ → List ℕ
credits_in k x floats words owners view angle e = credits_for view (index_in k floats words x) owners angle e

-- what a sweep goes by: its casts and their credits, the view, the site's tables, and the entries allowed to the owners
pub record Env : Type 0 where
  pub cast : Float → Option RayHit
  pub credits : Float → ℕ → List ℕ
  pub view : View
  pub points : List Float
  pub polygons : List ℕ
  pub owners : List ℕ
  pub room : ℕ

abbrev pub env : (Float → (Option RayHit)) → (Float → ℕ → List ℕ) → View → List Float → List ℕ → List ℕ → ℕ → Env
env cast credits view points polygons owners room =
    record { cast = cast; credits = credits; view = view; points = points; polygons = polygons; owners = owners; room = room }

-- as it stands in the work room
abbrev pub env_in : Rooms → AngularIndex → List Float → List ℕ → View → List Float → List ℕ → List ℕ → Env
env_in k x floats words view points polygons owners =
    env (cast_in k x floats words view) (credits_in k x floats words owners view) view points polygons owners k.owners

-- ---- what a crossing comes to
-- its angle from the view's start; past the seam of a full circle it is a turn more than that of the first end
unfoldable pub crossing_of : View → Float → Vec2 → Float
crossing_of view from p =
    let angle = normal_of (angle_of (sub_of p view.o) ⊖ view.start) in
    cond (lt angle from) (angle ⊕ tau) angle

-- a hit at t hides a crossing at a distance
unfoldable pub hides : Float → Float → Bool
hides dist t = lt t (dist ⊖ nano ⊗ max_of dist one_f)

-- by what is hit at the crossing's angle: an edge of neither end, in front of the crossing, hides it
abbrev pub look_by : (Option RayHit) → View → End → End → Vec2 → Float → Turn
look_by (Some h) view a b p angle =
    cond (eqb h.edge a.edge) (Open p)
    (cond (eqb h.edge b.edge) (Open p) (cond (hides (distance_of p view.o) h.t) (Hidden (point_of view angle (hit_at h.t h.edge)) angle h.edge) (Open p)))
look_by None view a b p angle = Open p

unfoldable pub look_of : (Float → (Option RayHit)) → View → End → End → Vec2 → Float → Turn
look_of cast view a b p angle = look_by (cast angle) view a b p angle

-- by where the ends' edges meet: the crossing counts where its angle lies between those of the ends
abbrev pub turn_by : (Option Vec2) → Env → End → End → Turn
turn_by (Some p) v a b =
    let angle = crossing_of v.view a.angle p in
    cond (lt a.angle angle && lt angle b.angle) (look_of v.cast v.view a b p angle) Stop
turn_by None v a b = Stop

-- where two edges of the site meet
abbrev pub meet_of : Ends → Ends → Option Vec2
meet_of e f = segment_intersection_of e.a e.b f.a f.b

unfoldable pub turn_of : Env → End → End → Turn
turn_of v a b =
    turn_by (meet_of (edge_of v.points v.polygons v.owners a.edge) (edge_of v.points v.polygons v.owners b.edge)) v a b

-- ---- a run: the outline's numbers, the marks and the counts
pub record Run : Type 0 where
  pub pts : List Float
  pub marks : List ℕ
  pub at : Trace

abbrev pub run_at : List Float → List ℕ → Trace → Run
run_at p m t = record { pts = p; marks = m; at = t }

-- one cast of refining more
abbrev pub counted_of : Trace → Trace
counted_of s = trace s.points s.last s.prev s.owners (s.refinements + 1) s.over

abbrev pub counting : Run → Run
counting s = run_at s.pts s.marks (counted_of s.at)

-- one point more
abbrev pub pushing : Vec2 → Vec2 → ℕ → Run → Run
pushing o p tag s = let q = push_of o p tag s.pts s.at in run_at q.pts s.marks q.at

-- the owners of these edges more
abbrev pub owning : Env → List ℕ → Run → Run
owning v l s = let q = own_all v.room v.owners l s.marks s.at in run_at s.pts q.marks q.at

-- ---- refining
abbrev pub end_of : Float → ℕ → End
end_of a e = record { angle = a; edge = e }

-- one call, where `again` is what the calls on the halves do
abbrev pub halve : (End → End → Run → Run) → Env → End → End → Turn → Run → Run
halve again v a b Stop s = s
halve again v a b (Open p) s = pushing v.view.o p corner (counting s)
halve again v a b (Hidden p g e) s = again (end_of g e) b (pushing v.view.o p e (again a (end_of g e) (owning v (v.credits g e) (counting s))))

-- so many depths are left; a run that is over stays as it is
unfoldable pub refine_of : Env → ℕ → End → End → Run → Run
refine_of v zero a b s = s
refine_of v (suc f) a b s = let r = halve (refine_of v f) v a b (turn_of v a b) s in cond s.at.over s r

-- ---- the counts
-- the points are within the list of l numbers and the owners within their room, and one cast more can be counted, and two for each owner that has room
pub record Ready (l room : ℕ) (s : Trace) : Type 0 where
  pub points : 2 * s.points ≤ l
  pub owners : Room room s
  pub casts : s.refinements + 2 * room + 3 < 2 ^ 64 + 2 * s.owners

-- so they are afterwards, and the casts have grown by two for each owner more, and one, at most
pub record Done (l room : ℕ) (s r : Trace) : Type 0 where
  pub points : 2 * r.points ≤ l
  pub owners : Room room r
  pub up : s.owners ≤ r.owners
  pub casts : r.refinements + 2 * s.owners ≤ s.refinements + 2 * r.owners + 1
