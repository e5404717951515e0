-- The polygon at a point (`Scene::polygon_at`, scene.rs, lines 292 to 300). Document 01, "Site and grid": "`polygon_at` is the highest id in the point's cell whose box and
-- even-odd test hold it". That `highest` is what its name says is proofs/Highest.antt. Definitions only.
use Rattle.std.specs.Prelude.{ℕ, Bool, cond, ◌&&◌, ltb, Float, None, Option, Some}
use mathlib.Core.List.{List, foldl}
use Rattle.lists.specs.Lists.{filter}
use Rattle.geom.specs.declared.Vec2.{Vec2}
use Rattle.geom.specs.Box.{contains_of}
use Rattle.geom.specs.Ring.{point_in_polygon_of}
use Rattle.grid.specs.declared.Grid.{Grid}
use Rattle.grid.specs.Boxes.{box_at}
use Rattle.grid.specs.Query.{items_at}
use Rattle.site.specs.Tables.{verts_of}

-- the polygon's box and its even-odd test hold the point
unfoldable pub holds_point : List Float → List Float → List ℕ → Vec2 → ℕ → Bool
holds_point points boxes polygons p id = contains_of (box_at boxes id) p && point_in_polygon_of p (verts_of points polygons id)

-- the higher of an id found before and one more
unfoldable pub higher_of : (Option ℕ) → ℕ → Option ℕ
higher_of (Some k) id = cond (ltb k id) (Some id) (Some k)
higher_of None id = Some id

-- the highest of the ids, nobody where there are none
unfoldable pub highest : List ℕ → Option ℕ
highest ids = foldl higher_of None ids

-- THE POLYGON AT p: the highest of the ids in its cell that pass
unfoldable pub polygon_at_of : Grid → List Float → List Float → List ℕ → List ℕ → List ℕ → Vec2 → Option ℕ
polygon_at_of g points boxes polygons starts items p = highest (filter (holds_point points boxes polygons p) (items_at g p starts items))

-- what was found, and one id more if it passes
abbrev pub with_id : List Float → List Float → List ℕ → Vec2 → (Option ℕ) → ℕ → Option ℕ
with_id points boxes polygons p w id = cond (holds_point points boxes polygons p id) (higher_of w id) w
