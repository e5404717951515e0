-- The six lent tables of a site and what stands in them, field by field (`scene.rs`, `Scene` and `Polygon`; `grid.rs`, `starts` and `items`).
-- A table is a list of numbers, a fixed count of them for each entry. It may be lent longer than it is. Past the end a number reads as 0 and a
-- float as NaN. The boxes are read as `grid` reads them (its specs/Boxes.antt). Definitions only.
use Rattle.std.specs.Prelude.{ℕ, ◌+◌, ◌*◌, min, cond, List, get_or, eqb, Float}
use Rattle.std.specs.Float.{nan}
use Rattle.lists.specs.Parts.{part}
use Rattle.geom.specs.declared.Vec2.{Vec2}
use Rattle.geom.specs.declared.Aabb.{Aabb}
use Rattle.geom.specs.Vec.{vec}
use Rattle.extent.specs.Boxes.{polygon_box_of}
use Rattle.site.specs.declared.Site.{Site}
use Rattle.site.specs.declared.Ends.{Ends}
use Rattle.site.specs.declared.SiteTables.{SiteTables}

-- the lent tables, in the order in which every function takes them
pub record Tables : Type 0 where
  pub points : List Float
  pub boxes : List Float
  pub polygons : List ℕ
  pub owners : List ℕ
  pub starts : List ℕ
  pub items : List ℕ

abbrev pub tables : List Float → List Float → List ℕ → List ℕ → List ℕ → List ℕ → Tables
tables points boxes polygons owners starts items = record {
  points = points;
  boxes = boxes;
  polygons = polygons;
  owners = owners;
  starts = starts;
  items = items;
}

-- those that are lent together
abbrev pub tables_of : SiteTables → Tables
tables_of t = tables t.points.now t.boxes.now t.polygons.now t.owners.now t.starts.now t.items.now

-- ---- how many numbers an entry has
-- a point: x, y
abbrev pub point_stride : ℕ
point_stride = 2

-- a polygon: first, len
abbrev pub polygon_stride : ℕ
polygon_stride = 2

-- ---- the fields
-- the polygon k: its first point, and how many it has
abbrev pub first_of : List ℕ → ℕ → ℕ
first_of polygons k = get_or polygons (polygon_stride * k) 0

abbrev pub len_of : List ℕ → ℕ → ℕ
len_of polygons k = get_or polygons (polygon_stride * k + 1) 0

-- the point i
abbrev pub point_at : List Float → ℕ → Vec2
point_at points i = vec (get_or points (point_stride * i) nan) (get_or points (point_stride * i + 1) nan)

-- the polygon that owns the point i, and so the edge that starts there
abbrev pub owner_at : List ℕ → ℕ → ℕ
owner_at owners i = get_or owners i 0

-- where the items of the cell c start
abbrev pub start_at : List ℕ → ℕ → ℕ
start_at starts c = get_or starts c 0

abbrev pub item_at : List ℕ → ℕ → ℕ
item_at items i = get_or items i 0

-- the points of the polygon k, as a part of the point list
abbrev pub verts_of : List Float → List ℕ → ℕ → List Float
verts_of points polygons k = part (point_stride * first_of polygons k) (point_stride * (first_of polygons k + len_of polygons k)) points

-- the box that they give
abbrev pub box_of : List Float → List ℕ → ℕ → Aabb
box_of points polygons k = polygon_box_of (verts_of points polygons k)

-- the point that the edge e ends at: the first of its owner's points after the last of them, otherwise the next. A `u32`, so no more than the largest one
unfoldable pub edge_end_of : List ℕ → List ℕ → ℕ → ℕ
edge_end_of polygons owners e =
    cond (eqb (e + 1) (first_of polygons (owner_at owners e) + len_of polygons (owner_at owners e)))
    (first_of polygons (owner_at owners e))
    (min (e + 1) 4294967295)

-- its end points
unfoldable pub edge_of : List Float → List ℕ → List ℕ → ℕ → Ends
unfolding edge_end_of
edge_of points polygons owners e = record { a = point_at points e; b = point_at points (edge_end_of polygons owners e) }

-- ---- the head
-- how many cells the grid has
abbrev pub cells_of : Site → ℕ
cells_of site = site.grid.cols * site.grid.rows
