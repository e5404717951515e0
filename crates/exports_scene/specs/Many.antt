-- Many questions in one call, for timing alone: how many of the points of a list lie in a polygon, and how many of its rays hit. What each question answers is
-- `polygon_at_of` and `cast_ray_of` of `sight`. Definitions only.
use Rattle.std.specs.Prelude.{ℕ, ◌+◌, ◌*◌, ◌/◌, List, length, get_or, Float}
use Rattle.std.specs.Option.{is_some}
use Rattle.std.specs.Float.{nan}
use Rattle.lists.specs.Lists.{bit, sum_to}
use Rattle.geom.specs.Vec.{vec}
use Rattle.geom.specs.Box.{corners, corner_of}
use Rattle.grid.specs.declared.Grid.{Grid}
use Rattle.sight.specs.Holding.{polygon_at_of}
use Rattle.sight.specs.Casting.{cast_ray_of}
use Rattle.scene.specs.Numbers.{cast_hit}

-- ---- points: x and y by turns, an odd last number is no point
-- 1 where the point i lies in a polygon, else 0
unfoldable pub held_at : Grid → List Float → List Float → List ℕ → List ℕ → List ℕ → List Float → ℕ → ℕ
held_at g points boxes polygons starts items asked i = bit (is_some (polygon_at_of g points boxes polygons starts items (corner_of asked i)))

-- how many points lie in a polygon
unfoldable pub held_of : Grid → List Float → List Float → List ℕ → List ℕ → List ℕ → List Float → ℕ
held_of g points boxes polygons starts items asked = sum_to (held_at g points boxes polygons starts items asked) (corners asked)

-- ---- rays: five numbers each, the origin, the direction and the length; what is left over is no ray
abbrev pub rays_in : List Float → ℕ
rays_in asked = length asked / 5

-- 1 where the ray i hits, else 0. By the Rust's rule, mode 0; in every other mode the same rays hit (`alike`, crate `sight`)
unfoldable pub hit_at : Grid → List Float → List Float → List ℕ → List ℕ → List ℕ → List Float → ℕ → ℕ
hit_at g points boxes polygons starts items asked i =
    let o = vec (get_or asked (5 * i) nan) (get_or asked (5 * i + 1) nan) in
    let d = vec (get_or asked (5 * i + 2) nan) (get_or asked (5 * i + 3) nan) in
    cast_hit (cast_ray_of g points boxes polygons starts items o d (get_or asked (5 * i + 4) nan) 0).hit

-- how many rays hit
unfoldable pub hits_of : Grid → List Float → List Float → List ℕ → List ℕ → List ℕ → List Float → ℕ
hits_of g points boxes polygons starts items asked = sum_to (hit_at g points boxes polygons starts items asked) (rays_in asked)
