-- The Rust's own rule, and its cast (`Scene::cast_ray`, scene.rs, lines 302 to 349): no mode, an edge counts where it is met nearer than all before (lines 332 to 337).
-- That mode 0 is this is proofs/Rusts.antt. Definitions only.
use Rattle.std.specs.Prelude.{ℕ, cond, List, Float, None, Some}
use Rattle.std.specs.Float.Ieee.{lt}
use Rattle.geom.specs.declared.Vec2.{Vec2}
use Rattle.grid.specs.declared.Grid.{Grid}
use Rattle.sight.specs.declared.Sighting.{Sighting}
use Rattle.sight.specs.Casting.{Rule, cast_by}
use Rattle.site.specs.Hits.{hit_at}

unfoldable pub rust_nearer : Rule
rust_nearer b (Some t) e = cond (lt t b.t) (record { t = t; hit = hit_at t e }) b
rust_nearer b None e = b

-- THE RUST'S CAST
unfoldable pub rust_cast_ray : Grid → List Float → List Float → List ℕ → List ℕ → List ℕ → Vec2 → Vec2 → Float → Sighting
rust_cast_ray g points boxes polygons starts items o d len = cast_by rust_nearer g points boxes polygons starts items o d len
