-- A cast ray, as the Rust runs it (`Scene::cast_ray`, scene.rs, lines 302 to 349): the walk of `walk` with a visitor that tests the polygons of each cell and
-- carries the nearest hit and the ring of the eight ids tested last. Document 01, "Site and grid": "the ring of 8 recent ids is kept. It reports cells entered".
-- The Rust tells a miss by the edge number u32::MAX; here a miss is `None`. Document 02, Q-3, has a mode decide which of several edges at exactly the same distance is
-- answered. Each layer takes the rule by which an edge counts, so that the Rust's own rule (specs/Rust.antt) goes through the same layers. Definitions only.
use Rattle.std.specs.Prelude.{ℕ, zero, suc, ◌+◌, ◌%◌, min, cond, length, set, replicate, eqb, ltb, Float, None, Option, Some}
use mathlib.Core.List.{List, foldl}
use Rattle.std.specs.Float.Ieee.{lt, eq}
use Rattle.num.specs.Ops.{◌⊘◌, one_f}
use Rattle.lists.specs.Members.{holds}
use Rattle.geom.specs.declared.Vec2.{Vec2}
use Rattle.geom.specs.Vec.{vec}
use Rattle.geom.specs.Box.{corners, corner_of}
use Rattle.geom.specs.Segment.{ray_segment_of}
use Rattle.geom.specs.Ring.{corner_before}
use Rattle.grid.specs.declared.Grid.{Grid}
use Rattle.grid.specs.Boxes.{box_at}
use Rattle.grid.specs.Entries.{cell_of}
use Rattle.site.specs.Tables.{first_of, verts_of}
use Rattle.walk.specs.Steps.{cell_number, exit_of}
use Rattle.walk.specs.Tours.{Visitor, Tour, ray_tour, ray_cells}
use Rattle.sight.specs.Slabs.{ray_hits_aabb_of}
use Rattle.sight.specs.declared.Ray.{Ray}
use Rattle.sight.specs.declared.Best.{Best}
use Rattle.sight.specs.declared.Recent.{Recent}
use Rattle.sight.specs.declared.Look.{Look}
use Rattle.sight.specs.declared.Sighting.{Sighting}
use Rattle.site.specs.Hits.{hit_at}
use Rattle.site.specs.declared.RayHit.{RayHit}

-- the ray from o along d
abbrev pub ray_of : Vec2 → Vec2 → Ray
ray_of o d = record { o = o; d = d; inv = vec (one_f ⊘ d.x) (one_f ⊘ d.y) }

-- ---- the edges of one polygon
-- the number of the edge that starts at the point i of a polygon: the number of that point. A `u32` ends at 4,294,967,295; no sound table gets there
unfoldable pub edge_number : ℕ → ℕ → ℕ
edge_number first i = min (first + i) 4294967295

-- a rule: what the nearest hit is after one edge more, by where the ray meets it and by its number
abbrev pub Rule : Type 0
Rule = Best → (Option Float) → ℕ → Best

-- the lower of the hit's number and e. Where there is no hit yet it stays a miss: the distance is then the ray's own length
abbrev pub lower_of : (Option RayHit) → ℕ → Best → Best
lower_of (Some h) e b = cond (ltb e h.edge) (record { t = b.t; hit = hit_at h.t e }) b
lower_of None e b = b

-- an edge e at exactly the distance of the nearest hit: in mode 0 the one found first stays, in any other the lower one
abbrev pub level_of : ℕ → Best → ℕ → Best
level_of mode b e = cond (eqb mode 0) b (lower_of b.hit e b)

-- THE RULE of a mode: the nearest hit after the edge e is met, or missed
unfoldable pub nearer_of : ℕ → Rule
nearer_of mode b (Some t) e = cond (lt t b.t) (record { t = t; hit = hit_at t e }) (cond (eq t b.t) (level_of mode b e) b)
nearer_of mode b None e = b

-- the nearest hit after the first k edges of a ring of corners, the closing edge first: edge i ends at corner i, and starts at the corner before it
unfoldable pub edges_up_to : Rule → Ray → List Float → ℕ → Best → ℕ → Best
edges_up_to rule ray ring first b zero = b
edges_up_to rule ray ring first b (suc i) =
    let prev = corner_before (corners ring) i in
    rule (edges_up_to rule ray ring first b i) (ray_segment_of ray.o ray.d (corner_of ring prev) (corner_of ring i)) (edge_number first prev)

-- and after all of them
unfoldable pub edges_met : Rule → Ray → List Float → ℕ → Best → Best
edges_met rule ray ring first b = edges_up_to rule ray ring first b (corners ring)

-- ---- the ring of recent ids: the Rust's `recent` and its `slot & 7`
abbrev pub recent_none : Recent
recent_none = record { ids = replicate 8 4294967295; slot = 0 }

unfoldable pub pushed : Recent → ℕ → Recent
pushed r id = record { ids = set r.ids (r.slot % 8) id; slot = r.slot % 8 + 1 }

-- ---- the polygons of a cell
-- after the box test of the polygon id with the nearest hit b: its edges, where the box is hit
abbrev pub box_seen : Rule → Ray → List Float → List Float → List ℕ → Best → ℕ → Best
box_seen rule ray points boxes polygons b id =
    cond (ray_hits_aabb_of ray.o ray.inv (box_at boxes id) b.t) (edges_met rule ray (verts_of points polygons id) (first_of polygons id) b) b

-- a polygon that is in the ring is passed over; any other goes into the ring, and then its box is tested
unfoldable pub item_seen : Rule → Ray → List Float → List Float → List ℕ → Look → ℕ → Look
item_seen rule ray points boxes polygons s id =
    cond (holds id s.recent.ids) s (record { best = box_seen rule ray points boxes polygons s.best id; recent = pushed s.recent id })

-- the ids of a cell, one after the other
unfoldable pub items_seen : Rule → Ray → List Float → List Float → List ℕ → Look → List ℕ → Look
items_seen rule ray points boxes polygons s ids = foldl (item_seen rule ray points boxes polygons) s ids

-- ---- the walk
-- at each place the cell's ids are looked at, and the walk goes on while the nearest hit lies beyond the cell
abbrev pub looker : Rule → Ray → List Float → List Float → List ℕ → List ℕ → List ℕ → Visitor Look
looker rule ray points boxes polygons starts items = record {
  sees = λ k p s. items_seen rule ray points boxes polygons s (cell_of starts items (cell_number k p));
  goes = λ k p s. lt (exit_of k p) s.best.t;
}

-- before the first cell: no hit, and nothing nearer than the ray's length
abbrev pub look_first : Float → Look
look_first len = record { best = record { t = len; hit = None }; recent = recent_none }

-- the nearest hit, and the number of cells entered
unfoldable pub sighting_of : Tour Look → Sighting
sighting_of t = record { hit = t.final.best.hit; cells = length t.places }

-- the cast by a rule
abbrev pub cast_by : Rule → Grid → List Float → List Float → List ℕ → List ℕ → List ℕ → Vec2 → Vec2 → Float → Sighting
cast_by rule g points boxes polygons starts items o d len =
    sighting_of (ray_tour (looker rule (ray_of o d) points boxes polygons starts items) g o d len (look_first len))

-- THE CAST of the ray from o along d, of length len, in a mode: 0 the Rust's rule, any other the lowest edge of those at the same distance
unfoldable pub cast_ray_of : Grid → List Float → List Float → List ℕ → List ℕ → List ℕ → Vec2 → Vec2 → Float → ℕ → Sighting
cast_ray_of g points boxes polygons starts items o d len mode = cast_by (nearer_of mode) g points boxes polygons starts items o d len

-- the cells that it enters, in order
abbrev pub cast_cells : Grid → List Float → List Float → List ℕ → List ℕ → List ℕ → Vec2 → Vec2 → Float → ℕ → List ℕ
cast_cells g points boxes polygons starts items o d len mode =
    ray_cells (looker (nearer_of mode) (ray_of o d) points boxes polygons starts items) g o d len (look_first len)
