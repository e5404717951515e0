-- WHAT AN OUTLINE CALL ASKS AND CASTS: its own box query, its own sweep with the rays that it casts, and what it is for an id to own an edge that faces the post and
-- that a cast of this very sweep returned, or tested at exactly the distance that it answered. Document 01, "Outlines from a post"; demand 3; document 02, Q-3.
-- Definitions only.
use Rattle.std.specs.Prelude.{◌≡◌, true, cond, List, [], ◌∷◌, ℕ, ◌<◌, length, take, Float, ◌⊎◌, Ok, Err, Result, None, Option}
use Rattle.std.specs.Float.Ieee.{lt}
use Rattle.grid.specs.Query as query
use Rattle.site.specs.declared.Site.{Site}
use Rattle.site.specs.Tables.{Tables, owner_at, edge_of}
use Rattle.site.specs.Domain.{load_of}
use Rattle.cone.specs.declared.ViewCone.{ViewCone}
use Rattle.room.specs.declared.Rooms.{Rooms}
use Rattle.view.specs.declared.Plan.{Plan}
use Rattle.view.specs.declared.Plan.TheVariants.{Empty, Inside, Query}
use Rattle.cone.specs.Domain.{load_cone_of}
use Rattle.view.specs.Post.{plan_of}
use Rattle.view.specs.Outcome.{Lent, request_of, look_in}
use Rattle.num.specs.Ops.{◌⊕◌, zero_f}
use Rattle.lists.specs.Members.{In}
use Rattle.geom.specs.Vec.{from_angle_of}
use Rattle.geom.specs.declared.Vec2.{Vec2}
use Rattle.grid.specs.declared.Listing.{Listing}
use Rattle.room.specs.declared.LocalEdge.{LocalEdge}
use Rattle.room.specs.declared.Sample.{Sample}
use Rattle.fan.specs.Sides.{facing}
use Rattle.fan.specs.Fan.{Fanned}
use Rattle.events.specs.Spots.{Spot}
use Rattle.index.specs.Casting.{tied_of}
use Rattle.rays.specs.Samples.{hit_of}
use Rattle.sweep.specs.Recorder.{as_rust}
use Rattle.stages.specs.declared.Shown.{Shown}
use Rattle.credit.specs.Credit.{no_marks}
use Rattle.stages.specs.Drawing.{Request, view_in, fan_in, spots_for, rays_for, index_for, course_of}
use Rattle.refusal.specs.declared.Refusal.{Refusal}
use Rattle.site.specs.Hits.{hit_at}
use Rattle.site.specs.declared.RayHit.{RayHit}

-- ---- the box query of a call
-- its outcome: nothing listed and the stamps as they are, where the call makes none
unfoldable pub inner_of : Site → Tables → ViewCone → Rooms → Lent → query.Outcome
inner_of site t c k l = look_in (plan_of site.grid t.points t.boxes t.polygons t.starts t.items (load_cone_of c)) site t k l

-- ---- the sweep of a call
-- what it goes by, where the call comes to one: a call that is empty, blocked or without events makes none, and has these front edges
pub data Sweep : Type 0 where
  still : List LocalEdge → Sweep
  sweeps : (q : Request) (es : List LocalEdge) (sp : List Spot) → Sweep

abbrev pub spotted_sweep : Request → List LocalEdge → List Spot → Sweep
spotted_sweep q es [] = still es
spotted_sweep q es (s ∷ l) = sweeps q es (s ∷ l)

abbrev pub fanned_sweep : Request → Fanned → Sweep
fanned_sweep q f = cond f.touch (still []) (spotted_sweep q f.edges (spots_for (view_in q) f))

abbrev pub listed_sweep : Result Listing Refusal → Request → List Float → List ℕ → Sweep
listed_sweep (Ok l) q boxes ids = fanned_sweep q (fan_in q boxes (take l.written ids))
listed_sweep (Err r) q boxes ids = still []

abbrev pub planned_sweep : Plan → Request → List Float → Result Listing Refusal → List ℕ → Sweep
planned_sweep Empty q boxes a ids = still []
planned_sweep Inside q boxes a ids = still []
planned_sweep (Query b) q boxes a ids = listed_sweep a q boxes ids

-- of a call with a loaded cone and tolerance
abbrev pub seen_sweep : Site → Tables → ViewCone → Float → ℕ → Rooms → Lent → Sweep
seen_sweep site t c tolerance mode k l =
    let p = plan_of site.grid t.points t.boxes t.polygons t.starts t.items c in
    planned_sweep p (request_of k t c tolerance mode l) t.boxes (look_in p site t k l).answer (look_in p site t k l).ids

-- OF THE CALL
unfoldable pub sweep_in : Site → Tables → ViewCone → Float → ℕ → Rooms → Lent → Sweep
sweep_in site t c tolerance mode k l = seen_sweep site t (load_cone_of c) (load_of tolerance) mode k l

-- its sample rays, each with what its cast returned
abbrev pub samples_in : Sweep → List Sample
samples_in (still es) = []
samples_in (sweeps q es sp) = rays_for q.mode (view_in q) es sp

-- the angles at which its refining cast
abbrev pub refined_in : Sweep → List Float
refined_in (still es) = []
refined_in (sweeps q es sp) = (as_rust (course_of q es sp) (rays_for q.mode (view_in q) es sp) no_marks).rays

-- what a ray at an angle hits
abbrev pub hit_in : Sweep → Float → Option RayHit
hit_in (still es) angle = None
hit_in (sweeps q es sp) angle = hit_of (view_in q) (index_for q es) angle

-- a cast of it returned the edge e: one of refining, or that of a sample
abbrev pub CastReturned : Sweep → ℕ → Type 0
CastReturned w e = ((angle : Float) × In angle (refined_in w) × (u : Float) × (hit_in w angle ≡ hit_at u e)) ⊎ ((a : Sample) × In a (samples_in w) × (u : Float) × (a.hit ≡ hit_at u e))

-- the front edges that the cast at an angle tests and meets at exactly the distance u (document 02, Q-3)
abbrev pub tied_in : Sweep → Float → Float → List LocalEdge
tied_in (still es) angle u = []
tied_in (sweeps q es sp) angle u = tied_of (index_for q es) (view_in q).o angle (from_angle_of ((view_in q).start ⊕ angle)) (view_in q).r u

-- a cast of it tested the edge e at exactly the distance that it answered: one of refining, or that of a sample
abbrev pub CastTested : Sweep → ℕ → Type 0
CastTested w e =
    ((angle : Float) × In angle (refined_in w) × (u : Float) × (f : ℕ) × (hit_in w angle ≡ hit_at u f) × (y : LocalEdge) × In y (tied_in w angle u) × (y.edge ≡ e))
    ⊎ ((a : Sample) × In a (samples_in w) × (u : Float) × (f : ℕ) × (a.hit ≡ hit_at u f) × (y : LocalEdge) × In y (tied_in w a.angle u) × (y.edge ≡ e))

-- the counts of front edges and merged events are those of the lists that it goes by
abbrev pub CountsOf : Sweep → Shown → Type 0
CountsOf (still es) s = (s.front_edges ≡ length es) × (s.events ≡ 0)
CountsOf (sweeps q es sp) s = (s.front_edges ≡ length es) × (s.events ≡ length sp)

-- ---- what is said of a call
-- the id owns an edge of the site, which faces the post o and of which P holds: that a cast of the call's sweep returned it, or tested it so
pub record OwnsFacing (site : Site) (t : Tables) (o : Vec2) (P : ℕ → Type 0) (id : ℕ) : Type 0 where
  pub edge : ℕ
  pub below : edge < site.points
  pub owner : owner_at t.owners edge ≡ id
  -- "Front edges have a negative computed cross product"
  pub faces : lt (facing o (edge_of t.points t.polygons t.owners edge).a (edge_of t.points t.polygons t.owners edge).b) zero_f ≡ true
  pub cast : P edge
