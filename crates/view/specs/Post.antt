-- What a post comes to before its stages, with a loaded cone: nothing is seen, it stands inside a polygon, or the polygons near a box are looked at. Document 01,
-- "Outlines from a post"; `visibility.rs`, lines 247 to 263. Definitions only.
use Rattle.std.specs.Prelude.{Bool, ◌||◌, cond, List, ℕ, Float, None, Option, Some}
use Rattle.std.specs.Float.Ieee.{is_nan, le}
use Rattle.num.specs.Ops.{zero_f}
use Rattle.geom.specs.Constants.{nano}
use Rattle.grid.specs.declared.Grid.{Grid}
use Rattle.sight.specs.Holding.{polygon_at_of}
use Rattle.cone.specs.declared.ViewCone.{ViewCone}
use Rattle.cone.specs.declared.View.{View}
use Rattle.cone.specs.Cone.{view_of, aabb_of}
use Rattle.view.specs.declared.Plan.{Plan}
use Rattle.view.specs.declared.Plan.TheVariants.{Empty, Inside, Query}

-- "NaN or non-positive range, or clamped field of view at most 1e-9: empty"
unfoldable pub is_empty : View → Bool
is_empty v = is_nan v.r || le v.r zero_f || le v.fov nano

-- "Next, a post inside a polygon: blocked"
abbrev pub plan_by : (Option ℕ) → ViewCone → Plan
plan_by (Some k) c = Inside
plan_by None c = Query (aabb_of c)

unfoldable pub plan_of : Grid → List Float → List Float → List ℕ → List ℕ → List ℕ → ViewCone → Plan
plan_of g points boxes polygons starts items c =
    cond (is_empty (view_of c)) Empty (plan_by (polygon_at_of g points boxes polygons starts items c.origin) c)
