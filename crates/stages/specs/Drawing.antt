-- The stages of an outline, one after another, as lists of records: `visibility.rs`, lines 265 to 518. A stage that would pass the entries stated for
-- one of its lists makes the whole a refusal 8 (document 01, "Refusal numbers"). Every count of the answer is the length of a list, or a count of the
-- sweep's run. Document 01, "Outlines from a post". Definitions only.
use Rattle.std.specs.Prelude.{Bool, true, false, not, ◌||◌, cond, List, [], ◌∷◌, ◌++◌, ℕ, ◌*◌, ltb, eqb, length, get_or, take, replicate, Float, Err, Ok, Result, Option}
use Rattle.std.specs.Float.{nan}
use Rattle.num.specs.Ops.{zero_f}
use Rattle.lists.specs.Lists.{cons_if}
use Rattle.sorts.specs.Sort.{dedup}
use Rattle.sorts.specs.Visible.{marked_of}
use Rattle.cone.specs.declared.ViewCone.{ViewCone}
use Rattle.cone.specs.declared.View.{View}
use Rattle.cone.specs.Cone.{is_full_of, view_of, arc_step_of, outline_of, numbers_of}
use Rattle.room.specs.declared.Rooms.{Rooms}
use Rattle.room.specs.declared.LocalEdge.{LocalEdge}
use Rattle.room.specs.declared.Event.{Event}
use Rattle.room.specs.declared.Sample.{Sample}
use Rattle.fan.specs.Fan.{Fanned, fan_of, is_over}
use Rattle.room.specs.Constants.{no_vertex}
use Rattle.events.specs.Spots.{Spot, sides_of, spots_of, aside_count}
use Rattle.index.specs.Spans.{head_of}
use Rattle.index.specs.Angular.{Index, index_of, refs_of}
use Rattle.index.specs.Stands.{over_of}
use Rattle.credit.specs.Credit.{no_marks}
use Rattle.rays.specs.Samples.{Turn, samples_of, hit_of, rays_cast}
use Rattle.refining.specs.Refine.{credits_for, env, Run}
use Rattle.sweep.specs.Sweep.{Course, begin_of, sweep_of}
use Rattle.refusal.specs.declared.Refusal.{Refusal}
use Rattle.refusal.specs.declared.Refusal.TheVariants.{NoListRoom}
use Rattle.stages.specs.declared.Shown.{Shown}
use Rattle.site.specs.declared.RayHit.{RayHit}

-- what the stages go by: the stated entries, three of the tables, the loaded cone and tolerance, the mode, and how many numbers each output slice holds
pub record Request : Type 0 where
  pub k : Rooms
  pub points : List Float
  pub polygons : List ℕ
  pub owners : List ℕ
  pub cone : ViewCone
  pub tolerance : Float
  pub mode : ℕ
  pub numbers : ℕ
  pub ids : ℕ

abbrev pub request : Rooms → List Float → List ℕ → List ℕ → ViewCone → Float → ℕ → ℕ → ℕ → Request
request k points polygons owners c tolerance mode numbers ids =
    record { k = k; points = points; polygons = polygons; owners = owners; cone = c; tolerance = tolerance; mode = mode; numbers = numbers; ids = ids }

abbrev pub view_in : Request → View
view_in q = view_of q.cone

-- ---- the answer with its two lists
pub record Drawing : Type 0 where
  pub answer : Result Shown Refusal
  pub pts : List Float
  pub ids : List ℕ

-- a list passes its entries
abbrev pub eight : Drawing
eight = record { answer = Err NoListRoom; pts = []; ids = [] }

-- empty or blocked: zero counts
abbrev pub plain : Bool → Bool → Drawing
plain blocked full = record {
  answer = Ok (record { blocked = blocked; full = full; points = 0; visible = 0; candidates = 0; front_edges = 0; events = 0; rays_cast = 0; refinements = 0 });
  pts = [];
  ids = [];
}

-- ---- the candidates' front edges and the events
abbrev pub fan_in : Request → List Float → List ℕ → Fanned
fan_in q boxes ids = fan_of (view_in q) q.points boxes q.polygons ids

-- all events, before they are merged, and merged
abbrev pub unmerged_of : View → Fanned → List Event
unmerged_of v f = f.events ++ sides_of v.full v.fov

abbrev pub spots_for : View → Fanned → List Spot
spots_for v f = spots_of (unmerged_of v f)

abbrev pub events_over : Rooms → View → Fanned → Bool
events_over k v f = ltb k.events (length (unmerged_of v f)) || ltb k.corners (aside_count (spots_for v f))

-- ---- no event: "Full circle with nothing in range", the cone's own outline, in room for so many numbers
unfoldable pub circle_by : ViewCone → Float → ℕ → ℕ → ℕ → Drawing
circle_by cone tolerance candidates edges numbers =
    let l = outline_of cone tolerance in
    cond (ltb numbers (2 * length l)) eight (record {
      answer = Ok (record { blocked = false; full = is_full_of cone; points = length l; visible = 0; candidates = candidates; front_edges = edges; events = 0; rays_cast = 0; refinements = 0 });
      pts = numbers_of l;
      ids = [];
    })

-- ---- the rays
abbrev pub no_spot : Spot
no_spot = record { angle = nan; vertex = no_vertex; side = false; extras = [] }

-- the event i of the merged ones, as a ray goes by it
unfoldable pub turns_of : List Spot → ℕ → Turn
turns_of spots i = record { angle = (get_or spots i no_spot).angle; side = (get_or spots i no_spot).side }

abbrev pub samples_for : View → List Spot → List Sample
samples_for v spots = samples_of v (turns_of spots) (length spots)

-- in order of angle, each with its answer in a mode
abbrev pub rays_for : ℕ → View → List LocalEdge → List Spot → List Sample
rays_for mode v edges spots = rays_cast v (index_of mode v.fov edges) (samples_for v spots)

-- ---- the sweep
-- the corners of an event: its own, unless it has none, and those kept aside, without repeats
unfoldable pub spot_corners : Spot → List ℕ
spot_corners s = cons_if (not (eqb s.vertex no_vertex)) s.vertex (dedup s.extras)

abbrev pub corners_at : List Spot → ℕ → List ℕ
corners_at spots i = spot_corners (get_or spots i no_spot)

-- the index of its casts
abbrev pub index_for : Request → List LocalEdge → Index
index_for q edges = index_of q.mode (view_in q).fov edges

-- what it goes by: a cast for each angle, the credits of each hit, and the rest of the request
abbrev pub course_by : (Float → (Option RayHit)) → (Float → ℕ → List ℕ) → Request → List Spot → Course
course_by cast credits q spots = record {
  env = env cast credits (view_in q) q.points q.polygons q.owners q.k.owners;
  step = arc_step_of (view_in q).r q.tolerance;
  seen = q.k.seen;
  corners = corners_at spots;
}

abbrev pub course_of : Request → List LocalEdge → List Spot → Course
course_of q edges spots = course_by (hit_of (view_in q) (index_for q edges)) (credits_for (view_in q) (index_for q edges) q.owners) q spots

-- its run, from an outline of zeros
unfoldable pub run_of : Request → List LocalEdge → List Spot → Run
run_of q edges spots = sweep_of (course_of q edges spots) (rays_for q.mode (view_in q) edges spots) (begin_of (view_in q) (replicate q.numbers zero_f) no_marks)

-- what the run comes to. The visible ids are the marked polygons, rising
unfoldable pub swept_of : Request → ℕ → List LocalEdge → List Spot → Run → Drawing
swept_of q candidates edges spots run =
    let ids = marked_of run.marks in
    cond run.at.over eight
    (cond (ltb q.ids (length ids)) eight (record {
      answer = Ok (record {
        blocked = false;
        full = (view_in q).full;
        points = run.at.points;
        visible = length ids;
        candidates = candidates;
        front_edges = length edges;
        events = length spots;
        rays_cast = length (samples_for (view_in q) spots);
        refinements = run.at.refinements;
      });
      pts = take (2 * run.at.points) run.pts;
      ids = ids;
    }))

-- ---- one after another
-- the bucket starts or the references pass their entries
abbrev pub index_over : Rooms → View → List LocalEdge → Bool
index_over k v edges = over_of k (head_of 0 (length edges) v.fov).buckets (refs_of v.fov edges)

-- they do, or the samples do
unfoldable pub rays_over : Rooms → View → List LocalEdge → List Spot → Bool
rays_over k v edges spots = index_over k v edges || ltb k.samples (length (samples_for v spots))

unfoldable pub spotted : Request → ℕ → List LocalEdge → List Spot → Drawing
spotted q candidates edges [] = circle_by q.cone q.tolerance candidates (length edges) q.numbers
spotted q candidates edges (s ∷ l) =
    cond (rays_over q.k (view_in q) edges (s ∷ l)) eight (swept_of q candidates edges (s ∷ l) (run_of q edges (s ∷ l)))

-- a post on an edge is blocked, but not before all candidates are looked at
unfoldable pub fanned : Request → Fanned → Drawing
fanned q f =
    cond (is_over q.k (length f.edges) (length f.events)) eight
    (cond f.touch (plain true (view_in q).full) (cond (events_over q.k (view_in q) f) eight (spotted q f.candidates f.edges (spots_for (view_in q) f))))

-- THE OUTLINE from the candidates
unfoldable pub staged_of : Request → List Float → List ℕ → Drawing
staged_of q boxes ids = fanned q (fan_in q boxes ids)
