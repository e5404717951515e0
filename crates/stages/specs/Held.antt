-- What the functions between the stages ask of the room and leave in it: the lists of specs/Drawing.antt, where they stand. Definitions only.
use Rattle.std.specs.Prelude.{◌≡◌, Bool, true, false, ◌||◌, cond, Option, Some, None, List, ℕ, ◌+◌, ◌*◌, ◌≤◌, ◌<◌, ltb, length, get_or, replicate, Float}
use Rattle.num.specs.Ops.{zero_f}
use Rattle.lists.specs.Lists.{listed}
use Rattle.lists.specs.Parts.{part, Has}
use Rattle.sorts.specs.Visible.{marked_of}
use Rattle.cone.specs.declared.View.{View}
use Rattle.room.specs.declared.Rooms.{Rooms}
use Rattle.room.specs.declared.LocalEdge.{LocalEdge}
use Rattle.room.specs.Layout.{order_w, seen_w, Fit}
use Rattle.room.specs.Records.{edges_in, Noted}
use Rattle.fan.specs.Fan.{Fanned, is_over}
use Rattle.events.specs.Spots.{Spot}
use Rattle.events.specs.Held.{spots_in, EndsBelow}
use Rattle.index.specs.declared.AngularIndex.{AngularIndex}
use Rattle.index.specs.Angular.{index_of}
use Rattle.index.specs.Stands.{index_in, Within}
use Rattle.rays.specs.Samples.{Lone}
use Rattle.rays.specs.Stands.{rays_in}
use Rattle.refining.specs.Refine.{Run}
use Rattle.sweep.specs.Sweep.{course_in, sample_in, begin_of, sweep_of}
use Rattle.stages.specs.declared.Gathering.{Gathering}
use Rattle.stages.specs.declared.Gathering.TheVariants.{Over, Touching, Found}
use Rattle.stages.specs.declared.Casting.{Casting}
use Rattle.stages.specs.declared.Tracing.{Tracing}
use Rattle.credit.specs.Credit.{no_marks}
use Rattle.stages.specs.Drawing.{spots_for, events_over, samples_for, rays_for, rays_over}

-- ---- the front edges and the merged events
unfoldable pub gathering_of : Rooms → View → Fanned → Gathering
gathering_of k v f =
    cond (is_over k (length f.edges) (length f.events)) Over
    (cond f.touch Touching (cond (events_over k v f) Over (Found f.candidates (length f.edges) (length (spots_for v f)))))

-- so many edges and merged events stand in the room, and the corners kept aside lie in their stretch
pub record Standing (k : Rooms) (edges events : ℕ) (f : List Float) (w : List ℕ) : Type 0 where
  pub fit : Fit k (length f) (length w)
  pub edges_fit : edges ≤ k.edges
  pub events_fit : events ≤ k.events
  pub ends : EndsBelow k f w events

-- they are those of a scan
pub record Kept (k : Rooms) (v : View) (g : Fanned) (edges events : ℕ) (f : List Float) (w : List ℕ) : Type 0 where
  pub edges_are : edges_in k f w edges ≡ g.edges
  pub spots_are : spots_in k f w events ≡ spots_for v g
  pub stand : Standing k edges events f w

-- unless a list is over or the post stands on an edge
abbrev pub KeptBy : Gathering → Rooms → View → Fanned → List Float → List ℕ → Type 0
KeptBy (Found candidates edges events) k v g f w = Kept k v g edges events f w
KeptBy Over k v g f w = Unit
KeptBy Touching k v g f w = Unit

pub record Gathered (k : Rooms) (v : View) (g : Fanned) (r : Gathering) (f : List Float) (w : List ℕ) : Type 0 where
  pub is : r ≡ gathering_of k v g
  pub kept : KeptBy r k v g f w

-- ---- the index and the rays with their directions and ties, from f and w to f' and w': they stand in the room, and the merged events still do
pub record CastedTo (mode : ℕ) (k : Rooms) (v : View) (edges : List LocalEdge) (spots : List Spot) (r : Casting) (f : List Float) (w : List ℕ) : Type 0 where
  pub fits : rays_over k v edges spots ≡ false
  pub samples : r.samples ≡ length (samples_for v spots)
  pub few : r.samples ≤ k.samples
  pub rays : rays_in k f w r.samples ≡ rays_for mode v edges spots
  pub below : (t : ℕ) → t < r.samples → get_or w (order_w k + t) 0 < k.samples
  pub noted : Noted k v.start (Lone v (index_of mode v.fov edges)) f w r.samples
  pub index : index_in k f w r.index ≡ index_of mode v.fov edges
  pub within : Within k w r.index
  pub spots_stay : spots_in k f w (length spots) ≡ spots
  pub ends : EndsBelow k f w (length spots)

-- or a list is over
abbrev pub Casted : ℕ → Rooms → View → List LocalEdge → List Spot → Option Casting → List Float → List ℕ → Type 0
Casted mode k v edges spots (Some r) f w = CastedTo mode k v edges spots r f w
Casted mode k v edges spots None f w = rays_over k v edges spots ≡ true

-- ---- the sweep
-- the run over what stands in the room, from an outline of zeros
abbrev pub run_in : Rooms → AngularIndex → List Float → List ℕ → View → Float → List Float → List ℕ → List ℕ → ℕ → ℕ → Run
run_in k x f w view step points polygons owners n numbers =
    sweep_of (course_in k x f (part 0 (seen_w k) w) view step points polygons owners) (listed (sample_in k f (part 0 (seen_w k) w)) n)
    (begin_of view (replicate numbers zero_f) no_marks)

-- a list is over
abbrev pub traced_over : Run → ℕ → Bool
traced_over run room = run.at.over || ltb room (length (marked_of run.marks))

-- its points and the marked polygons stand in front of the output slices
pub record TracedTo (run : Run) (room : ℕ) (r : Tracing) (visible : List ℕ) : Type 0 where
  pub fits : traced_over run room ≡ false
  pub points : r.points ≡ run.at.points
  pub refinements : r.refinements ≡ run.at.refinements
  pub visible_many : r.visible ≡ length (marked_of run.marks)
  pub ids : Has visible 0 (marked_of run.marks)

abbrev pub TracedBy : Option Tracing → Run → ℕ → List ℕ → Type 0
TracedBy (Some r) run room visible = TracedTo run room r visible
TracedBy None run room visible = traced_over run room ≡ true

pub record Traced (run : Run) (room : ℕ) (r : Option Tracing) (outline : List Float) (visible : List ℕ) : Type 0 where
  pub by : TracedBy r run room visible
  pub pts : outline ≡ run.pts
  pub within : 2 * run.at.points ≤ length run.pts
