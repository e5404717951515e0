-- The cast of the Rust by itself, without a mode: `AngularIndex::cast` (`visibility.rs`, lines 569 to 592). Document 01: "of equal distances the first met
-- in order of nearness stays". Mode 0 of specs/Casting.antt is this: `rust_cast_lem` (proofs/Rusts.antt). Definitions only.
use Rattle.std.specs.Prelude.{ℕ, cond, List, [], ◌∷◌, Float, None, Option, Some}
use Rattle.std.specs.Float.Ieee.{lt, le}
use Rattle.geom.specs.Constants.{nano}
use Rattle.geom.specs.Segment.{ray_segment_within}
use Rattle.geom.specs.declared.Vec2.{Vec2}
use Rattle.room.specs.declared.LocalEdge.{LocalEdge}
use Rattle.index.specs.declared.Best.{Best}
use Rattle.index.specs.Angular.{Index}
use Rattle.index.specs.Casting.{best_of, none_yet, cast_by, bucket_at}
use Rattle.site.specs.declared.RayHit.{RayHit}

abbrev pub rust_better : (Option Float) → ℕ → Best → Best
rust_better (Some t) edge b = cond (lt t b.t) (best_of t edge) b
rust_better None edge b = b

-- the edges in turn, until one is not nearer than the best distance
module _ (slack : Float) (o dir : Vec2) where
  unfoldable pub rust_walk : Best → List LocalEdge → Best
  unfolding ray_segment_within
  rust_walk b [] = b
  rust_walk b (e ∷ es) = let rest = rust_walk (rust_better (ray_segment_within slack o dir e.a e.b) e.edge b) es in cond (le b.t e.near) b rest

unfoldable pub rust_cast : Index → Vec2 → Float → Vec2 → Float → Option RayHit
unfolding rust_walk bucket_at
rust_cast x o angle dir max = cast_by (rust_walk nano o dir (none_yet max) (bucket_at x angle))
