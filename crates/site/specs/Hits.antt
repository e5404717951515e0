-- The answer of a cast that hits: the distance along the ray, and the edge (`scene.rs`, `RayHit`). Definitions only.
use Rattle.std.specs.Prelude.{ℕ, Float, Option, Some}
use Rattle.site.specs.declared.RayHit.{RayHit}

abbrev pub hit_at : Float → ℕ → Option RayHit
hit_at t e = Some (record { t = t; edge = e })
