-- Counting the answers of many questions (specs/Many.antt): each adds 1 at most, so that the count fits. Assumes nothing.
use Rattle.std.proofs.Common.{None, Option, Some}
use Rattle.std.specs.Option.{is_some}
use mathlib.Core.Path.{◌≡◌}
use mathlib.Core.List.{List}
use Prim.Native.Nat.{ℕ, ◌+◌, ◌*◌, ◌≤◌}
use native.Mathlib.Numerals.{add-one}
use native.Mathlib.Omega.{arith}
use lib.ListN.{get_or}
use lib.Ieee.{Float, nan}
use Rattle.lists.specs.Lists.{sum_to}
use Rattle.lists.proofs.Counting.{bit_le}
use Rattle.geom.specs.Vec.{vec}
use Rattle.geom.specs.Box.{corner_of}
use Rattle.grid.specs.declared.Grid.{Grid}
use Rattle.sight.specs.Holding.{polygon_at_of}
use Rattle.sight.specs.Casting.{cast_ray_of}
use Rattle.scene.specs.Numbers.{cast_hit}
use Rattle.exports_scene.specs.Many.{held_at, hit_at}
use Rattle.site.specs.declared.RayHit.{RayHit}

-- one answer more
sum_next : (f : ℕ → ℕ) (i : ℕ) {n b : ℕ} → n ≡ sum_to f i → b ≡ f i → n + b ≡ sum_to f (i + 1)
sum_next f i e h = rw (add-one, e, h)

hit_le_one : (h : Option RayHit) → cast_hit h ≤ 1
hit_le_one (Some h) = omega arith
hit_le_one None = omega arith

module _ (g : Grid) (points boxes : List Float) (polygons starts items : List ℕ) (asked : List Float) (i : ℕ) where
  pub held_next : {n b : ℕ} → n ≡ sum_to (held_at g points boxes polygons starts items asked) i → b ≡ held_at g points boxes polygons starts items asked i → n + b ≡ sum_to (held_at g points boxes polygons starts items asked) (i + 1)
  held_next = sum_next (held_at g points boxes polygons starts items asked) i

  pub held_le : {b : ℕ} → b ≡ held_at g points boxes polygons starts items asked i → b ≤ 1
  unfolding held_at
  held_le e = omega (arith, e, bit_le (is_some (polygon_at_of g points boxes polygons starts items (corner_of asked i))))

  pub hit_next : {n b : ℕ} → n ≡ sum_to (hit_at g points boxes polygons starts items asked) i → b ≡ hit_at g points boxes polygons starts items asked i → n + b ≡ sum_to (hit_at g points boxes polygons starts items asked) (i + 1)
  hit_next = sum_next (hit_at g points boxes polygons starts items asked) i

  pub hit_le : {b : ℕ} → b ≡ hit_at g points boxes polygons starts items asked i → b ≤ 1
  unfolding hit_at
  hit_le e =
      let o = vec (get_or asked (5 * i) nan) (get_or asked (5 * i + 1) nan) in
      let d = vec (get_or asked (5 * i + 2) nan) (get_or asked (5 * i + 3) nan) in
      omega (arith, e, hit_le_one (cast_ray_of g points boxes polygons starts items o d (get_or asked (5 * i + 4) nan) 0).hit)
