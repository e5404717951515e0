-- THE RUN THAT BOUNDS NO LIST, list by list: how long each list of an outline call gets where every list may grow, as in the Rust (`visibility.rs`, lines 247 to 518). The
-- names are document 01's: "ids of the box query, front edges, unmerged events, kept-aside corners, samples, bucket starts, angular references, owners, and
-- corners seen at one event", and the two output lists. A list that the run does not come to is empty. Definitions only.
use Rattle.std.specs.Prelude.{cond, List, [], ◌∷◌, ℕ, ◌+◌, ◌*◌, ◌≤◌, length, Float}
use Rattle.grid.specs.Query.{found_of}
use Rattle.sorts.specs.Visible.{marked_of}
use Rattle.site.specs.declared.Site.{Site}
use Rattle.site.specs.Tables.{Tables}
use Rattle.site.specs.Domain.{load_of}
use Rattle.cone.specs.declared.ViewCone.{ViewCone}
use Rattle.cone.specs.Cone.{outline_of}
use Rattle.room.specs.declared.Rooms.{Rooms}
use Rattle.room.specs.Layout.{Fit}
use Rattle.fan.specs.Fan.{Fanned}
use Rattle.events.specs.Spots.{Spot, aside_count}
use Rattle.index.specs.Spans.{head_of}
use Rattle.index.specs.Angular.{refs_of}
use Rattle.sweep.specs.Recorder.{Free, as_rust}
use Rattle.credit.specs.Credit.{no_marks}
use Rattle.stages.specs.Drawing.{Request, view_in, fan_in, unmerged_of, spots_for, samples_for, rays_for, course_of}
use Rattle.view.specs.declared.Plan.{Plan}
use Rattle.view.specs.declared.Plan.TheVariants.{Empty, Inside, Query}
use Rattle.cone.specs.Domain.{load_cone_of}
use Rattle.view.specs.Post.{plan_of}
use Rattle.view.specs.Outcome.{Lent, request_of}

-- how long each list gets
pub record Lengths : Type 0 where
  pub ids : ℕ
  pub edges : ℕ
  pub events : ℕ
  pub corners : ℕ
  pub samples : ℕ
  pub starts : ℕ
  pub refs : ℕ
  pub owners : ℕ
  pub seen : ℕ
  pub points : ℕ
  pub visible : ℕ

-- the box query's ids, the scan's edges and events, corners kept aside, and points of the outline; no ray is cast
abbrev pub no_rays : ℕ → ℕ → ℕ → ℕ → ℕ → Lengths
no_rays ids edges events corners points = record {
  ids = ids;
  edges = edges;
  events = events;
  corners = corners;
  samples = 0;
  starts = 0;
  refs = 0;
  owners = 0;
  seen = 0;
  points = points;
  visible = 0;
}

-- the sweep in lists that grow
abbrev pub growing : Request → Fanned → List Spot → Free
growing q f spots = as_rust (course_of q f.edges spots) (rays_for q.mode (view_in q) f.edges spots) no_marks

-- of n ids, from the scan and the merged events on: without an event it is the cone's own outline
unfoldable pub swept_lengths : Request → ℕ → Fanned → List Spot → Lengths
swept_lengths q n f [] = no_rays n (length f.edges) (length (unmerged_of (view_in q) f)) 0 (length (outline_of q.cone q.tolerance))
swept_lengths q n f (s ∷ l) = record {
  ids = n;
  edges = length f.edges;
  events = length (unmerged_of (view_in q) f);
  corners = aside_count (s ∷ l);
  samples = length (samples_for (view_in q) (s ∷ l));
  starts = (head_of 0 (length f.edges) (view_in q).fov).buckets + 1;
  refs = refs_of (view_in q).fov f.edges;
  owners = (growing q f (s ∷ l)).run.at.owners;
  seen = (growing q f (s ∷ l)).most;
  points = (growing q f (s ∷ l)).run.at.points;
  visible = length (marked_of (growing q f (s ∷ l)).run.marks);
}

-- a post on an edge is blocked once all candidates are looked at, and no event of a side is added
unfoldable pub fanned_lengths : Request → ℕ → Fanned → Lengths
fanned_lengths q n f = cond f.touch (no_rays n (length f.edges) (length f.events) 0 0) (swept_lengths q n f (spots_for (view_in q) f))

-- an empty view and a post inside a polygon have no list at all
unfoldable pub planned_lengths : Plan → Site → Tables → Request → Lent → Lengths
planned_lengths Empty s t q l = no_rays 0 0 0 0 0
planned_lengths Inside s t q l = no_rays 0 0 0 0 0
planned_lengths (Query b) s t q l =
    let found = found_of s.grid b t.starts t.items l.marks l.epoch in
    fanned_lengths q (length found) (fan_in q t.boxes found)

-- THE LENGTHS of an outline call's lists
unfoldable pub lengths_of : Site → Tables → ViewCone → Float → ℕ → Rooms → Lent → Lengths
lengths_of s t c tolerance mode k l =
    planned_lengths (plan_of s.grid t.points t.boxes t.polygons t.starts t.items (load_cone_of c)) s t (request_of k t (load_cone_of c) (load_of tolerance) mode l) l

-- WHAT 8 ASKS: the lent slices hold the room that the stated entries need, and each list keeps within its entries: those stated for the work lists, and those of the
-- two output slices, where a point takes two numbers
pub record Enough (k : Rooms) (floats words numbers ids : ℕ) (n : Lengths) : Type 0 where
  pub room_fits : Fit k floats words
  pub ids_fit : n.ids ≤ k.ids
  pub edges_fit : n.edges ≤ k.edges
  pub events_fit : n.events ≤ k.events
  pub corners_fit : n.corners ≤ k.corners
  pub samples_fit : n.samples ≤ k.samples
  pub starts_fit : n.starts ≤ k.starts
  pub refs_fit : n.refs ≤ k.refs
  pub owners_fit : n.owners ≤ k.owners
  pub seen_fit : n.seen ≤ k.seen
  pub points_fit : 2 * n.points ≤ numbers
  pub visible_fit : n.visible ≤ ids
