-- THE EDGES THAT A CAST TESTS, in the order in which it tests them: in each cell that it enters, those of each polygon that is not in the ring of recent ids and whose
-- box passes the box test. Document 02, Q-3: "The single ray takes the lowest edge too, among the edges it tests". The log stands beside the cast
-- and does not touch it. That the cast is the fold of its rule over this list, and which of these edges it answers, is proofs/Lowest.antt. Definitions only.
use Rattle.std.specs.Prelude.{ℕ, zero, suc, cond, Float, Option}
use mathlib.Core.List.{List, [], ◌∷◌, ◌++◌, foldl}
use Rattle.std.specs.Float.Ieee.{lt}
use Rattle.lists.specs.Members.{holds}
use Rattle.geom.specs.declared.Vec2.{Vec2}
use Rattle.geom.specs.Box.{corners, corner_of}
use Rattle.geom.specs.Segment.{ray_segment_of}
use Rattle.geom.specs.Ring.{corner_before}
use Rattle.grid.specs.declared.Grid.{Grid}
use Rattle.grid.specs.Boxes.{box_at}
use Rattle.grid.specs.Entries.{cell_of}
use Rattle.site.specs.Tables.{first_of, verts_of}
use Rattle.walk.specs.Steps.{cell_number, exit_of}
use Rattle.walk.specs.Tours.{Visitor, ray_tour}
use Rattle.sight.specs.Slabs.{ray_hits_aabb_of}
use Rattle.sight.specs.declared.Ray.{Ray}
use Rattle.sight.specs.declared.Look.{Look}
use Rattle.sight.specs.Casting.{Rule, ray_of, edge_number, nearer_of, item_seen, look_first}

-- an edge that was tested: its number, and where the ray meets it
pub record Tested : Type 0 where
  pub edge : ℕ
  pub met : Option Float

-- the first k edges of a ring of corners, the closing edge first
unfoldable pub edges_tested : Ray → List Float → ℕ → ℕ → List Tested
edges_tested ray ring first zero = []
edges_tested ray ring first (suc i) =
    let prev = corner_before (corners ring) i in
    edges_tested ray ring first i ++ (record { edge = edge_number first prev; met = ray_segment_of ray.o ray.d (corner_of ring prev) (corner_of ring i) } ∷ [])

-- of the polygon id, where the cast knows s: none if it was tested lately, or if the box test fails
unfoldable pub item_tested : Ray → List Float → List Float → List ℕ → Look → ℕ → List Tested
item_tested ray points boxes polygons s id =
    cond (holds id s.recent.ids) []
    (cond (ray_hits_aabb_of ray.o ray.inv (box_at boxes id) s.best.t)
    (edges_tested ray (verts_of points polygons id) (first_of polygons id) (corners (verts_of points polygons id))) [])

-- what the cast knows, and what it has tested
pub record Log : Type 0 where
  pub look : Look
  pub tested : List Tested

-- after the polygon id
abbrev pub item_logged : Rule → Ray → List Float → List Float → List ℕ → Log → ℕ → Log
item_logged rule ray points boxes polygons s id =
    record { look = item_seen rule ray points boxes polygons s.look id; tested = s.tested ++ item_tested ray points boxes polygons s.look id }

-- the same walk as the cast's, with the log
abbrev pub logger : Rule → Ray → List Float → List Float → List ℕ → List ℕ → List ℕ → Visitor Log
logger rule ray points boxes polygons starts items = record {
  sees = λ k p s. foldl (item_logged rule ray points boxes polygons) s (cell_of starts items (cell_number k p));
  goes = λ k p s. lt (exit_of k p) s.look.best.t;
}

-- THE EDGES TESTED by the cast of the ray from o along d, of length len, in a mode
unfoldable pub cast_tested : Grid → List Float → List Float → List ℕ → List ℕ → List ℕ → Vec2 → Vec2 → Float → ℕ → List Tested
cast_tested g points boxes polygons starts items o d len mode =
    (ray_tour (logger (nearer_of mode) (ray_of o d) points boxes polygons starts items) g o d len (record { look = look_first len; tested = [] })).final.tested
