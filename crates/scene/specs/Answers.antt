-- What each question that writes nothing answers, for every input: one definition for each call of `scene`, in the order of its source. The Rust's accessors and
-- queries of `Scene` (scene.rs) and `items_at` and `dims` of its grid (grid.rs). Document 01, "Refusal numbers", "Domain" and "Site and grid". An answer that is
-- refused carries document 01's number and nothing else. Definitions only.
use Rattle.std.specs.Prelude.{ℕ, true, List, [], ltb, length, Float, Option, Result, Ok, Err}
use Rattle.geom.specs.declared.Vec2.{Vec2}
use Rattle.grid.specs.Boxes.{box_at}
use Rattle.grid.specs.Query.{items_at}
use Rattle.extent.specs.Boxes.{boxes_of}
use Rattle.extent.specs.Extent as extent
use Rattle.site.specs.declared.Site.{Site}
use Rattle.site.specs.declared.Ends.{Ends}
use Rattle.site.specs.Tables.{Tables, first_of, len_of, owner_at, verts_of}
use Rattle.site.specs.Tables as table
use Rattle.site.specs.Domain.{point_in_domain, load_of, load_point_of}
use Rattle.site.specs.declared.RayHit.{RayHit}
use Rattle.sight.specs.declared.Sighting.{Sighting}
use Rattle.sight.specs.Holding as holding
use Rattle.sight.specs.Casting as casting
use Rattle.sight.specs.Tested.{Tested, cast_tested}
use Rattle.refusal.specs.declared.Refusal.{Refusal}
use Rattle.geom.specs.declared.Aabb.{Aabb}
use Rattle.grid.specs.declared.Dims.{Dims}
use Rattle.scene.specs.declared.Polygon.{Polygon}
use Rattle.scene.specs.Asked.{asked, ray_in_domain}

-- ---- the head: nothing is given that could lie outside the domain
unfoldable pub width_of : Site → Tables → Result Float Refusal
width_of site t = asked Err site t true (Ok (load_of site.width))

unfoldable pub height_of : Site → Tables → Result Float Refusal
height_of site t = asked Err site t true (Ok (load_of site.height))

unfoldable pub bounds_of : Site → Tables → Result Aabb Refusal
bounds_of site t =
    asked Err site t true
    (Ok (extent.bounds_of (load_of site.width) (load_of site.height) (boxes_of t.boxes site.polygons)))

unfoldable pub dims_of : Site → Tables → Result Dims Refusal
dims_of site t = asked Err site t true (Ok (record { cols = site.grid.cols; rows = site.grid.rows }))

-- ---- polygons: "an id .. asked for below its count"
unfoldable pub polygon_of : Site → Tables → ℕ → Result Polygon Refusal
polygon_of site t id =
    asked Err site t (ltb id site.polygons) (Ok (record { first = first_of t.polygons id; len = len_of t.polygons id; aabb = box_at t.boxes id }))

unfoldable pub polygon_vertices_of : Site → Tables → ℕ → List Float
polygon_vertices_of site t id = asked (λ n. []) site t (ltb id site.polygons) (verts_of t.points t.polygons id)

-- how many points they are. That the part holds twice as many numbers is `vertices_number` of proofs/Parts.antt
unfoldable pub polygon_vertices_number_of : Site → Tables → ℕ → Result ℕ Refusal
polygon_vertices_number_of site t id = asked Err site t (ltb id site.polygons) (Ok (len_of t.polygons id))

-- ---- edges: an edge has the number of the point where it starts
unfoldable pub edge_of : Site → Tables → ℕ → Result Ends Refusal
edge_of site t e = asked Err site t (ltb e site.points) (Ok (table.edge_of t.points t.polygons t.owners e))

unfoldable pub edge_end_of : Site → Tables → ℕ → Result ℕ Refusal
edge_end_of site t e = asked Err site t (ltb e site.points) (Ok (table.edge_end_of t.polygons t.owners e))

unfoldable pub edge_owner_of : Site → Tables → ℕ → Result ℕ Refusal
edge_owner_of site t e = asked Err site t (ltb e site.points) (Ok (owner_at t.owners e))

-- ---- a point
unfoldable pub items_at_of : Site → Tables → Vec2 → List ℕ
items_at_of site t p = asked (λ n. []) site t (point_in_domain p) (items_at site.grid (load_point_of p) t.starts t.items)

unfoldable pub items_at_number_of : Site → Tables → Vec2 → Result ℕ Refusal
items_at_number_of site t p =
    asked Err site t (point_in_domain p) (Ok (length (items_at site.grid (load_point_of p) t.starts t.items)))

unfoldable pub polygon_at_of : Site → Tables → Vec2 → Result (Option ℕ) Refusal
polygon_at_of site t p =
    asked Err site t (point_in_domain p)
    (Ok (holding.polygon_at_of site.grid t.points t.boxes t.polygons t.starts t.items (load_point_of p)))

-- ---- a ray, in a mode: 0 the Rust's rule, 1 the lowest edge of those tested at exactly the distance answered (document 02, Q-3)
-- the answer of a hit or a miss, and of so many cells entered
abbrev pub seen : Option RayHit → ℕ → Result Sighting Refusal
seen hit cells = Ok (record { hit = hit; cells = cells })

unfoldable pub cast_ray_of : Site → Tables → Vec2 → Vec2 → Float → ℕ → Result Sighting Refusal
cast_ray_of site t o d len mode =
    asked Err site t (ray_in_domain o d len mode)
    (Ok (casting.cast_ray_of site.grid t.points t.boxes t.polygons t.starts t.items (load_point_of o) (load_point_of d) (load_of len) mode))

-- the cells that it enters, in order, where it is not refused
abbrev pub seen_cells : Site → Tables → Vec2 → Vec2 → Float → ℕ → List ℕ
seen_cells site t o d len mode =
    casting.cast_cells site.grid t.points t.boxes t.polygons t.starts t.items (load_point_of o) (load_point_of d) (load_of len) mode

-- and the edges that it tests, in order
abbrev pub seen_tested : Site → Tables → Vec2 → Vec2 → Float → ℕ → List Tested
seen_tested site t o d len mode = cast_tested site.grid t.points t.boxes t.polygons t.starts t.items (load_point_of o) (load_point_of d) (load_of len) mode
