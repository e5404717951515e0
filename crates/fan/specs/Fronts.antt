-- What the front edges and the events of a scan are. Document 01: "Front edges have a negative computed cross product". Definitions only.
use Rattle.std.specs.Prelude.{ℕ, ◌+◌, ◌%◌, ◌<◌, ◌≡◌, ◌⊎◌, false, List, Float}
use Rattle.std.specs.Float.Ieee.{le}
use Rattle.num.specs.Ops.{zero_f}
use Rattle.lists.specs.Members.{In}
use Rattle.site.specs.Tables.{first_of, len_of, point_at}
use Rattle.cone.specs.declared.View.{View}
use Rattle.room.specs.declared.LocalEdge.{LocalEdge}
use Rattle.room.specs.declared.Event.{Event}
use Rattle.room.specs.Constants.{no_vertex}
use Rattle.fan.specs.Sides.{facing}

-- e is the edge i of a polygon of the list, and its cross product is not zero or more: it is negative, there being no NaN in the domain
pub record IsFront (v : View) (points : List Float) (polygons ids : List ℕ) (e : LocalEdge) : Type 0 where
  pub polygon : ℕ
  pub i : ℕ
  pub listed : In polygon ids
  pub below : i < len_of polygons polygon
  pub number : e.edge ≡ first_of polygons polygon + i
  pub faces : le zero_f (facing v.o (point_at points e.edge) (point_at points (first_of polygons polygon + (i + 1) % len_of polygons polygon))) ≡ false

-- e is no side of a sector, and has no vertex or one below m
pub record IsEnd (m : ℕ) (e : Event) : Type 0 where
  pub no_side : e.side ≡ false
  pub vertex : (e.vertex ≡ no_vertex) ⊎ (e.vertex < m)
