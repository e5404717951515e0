-- Demand 3 for the cast: the cells that it counts are the cells of its walk, none is entered twice, each is a cell of the grid, and there are at most
-- columns + rows - 1, in every mode. Assumes nothing.
use mathlib.Core.Path.{◌≡◌, sym}
use mathlib.Core.List.{List}
use Prim.Native.Nat.{ℕ}
use lib.ListN.{length}
use lib.Ieee.{Float}
use Rattle.geom.specs.declared.Vec2.{Vec2}
use Rattle.grid.specs.declared.Grid.{Grid}
use Rattle.walk.proofs.EnteredOnce.{Once, entered_once, counted}
use Rattle.sight.specs.Casting.{ray_of, nearer_of, looker, look_first, sighting_of, cast_ray_of, cast_cells}

module _ (g : Grid) (points boxes : List Float) (polygons starts items : List ℕ) (o d : Vec2) (len : Float) (mode : ℕ) where
  pub cells_counted : (cast_ray_of g points boxes polygons starts items o d len mode).cells ≡ length (cast_cells g points boxes polygons starts items o d len mode)
  unfolding cast_ray_of sighting_of
  cells_counted = sym (counted (looker (nearer_of mode) (ray_of o d) points boxes polygons starts items) g o d len (look_first len))

  pub cells_once : Once g (cast_cells g points boxes polygons starts items o d len mode)
  cells_once = entered_once (looker (nearer_of mode) (ray_of o d) points boxes polygons starts items) g o d len (look_first len)
