-- MODE 0 IS THE RUST'S RULE: `rust_cast_lem`: a cast over an index in mode 0 is the cast of specs/Rust.antt, which knows no mode. Assumes nothing.
use Rattle.std.proofs.Common.{◌≡◌, ℕ, Bool, true, false, cond, List, [], ◌∷◌, refl, ap, ◌∙◌, None, Option, Some}
use lib.Ieee.{Float, lt, le, eq}
use Rattle.geom.specs.Constants.{nano}
use Rattle.geom.specs.Segment.{ray_segment_within}
use Rattle.geom.specs.declared.Vec2.{Vec2}
use Rattle.room.specs.declared.LocalEdge.{LocalEdge}
use Rattle.index.specs.declared.Best.{Best}
use Rattle.index.specs.Angular.{Index}
use Rattle.index.specs.Casting.{best_of, none_yet, cast_by, better_of, meet_of, walk_of, bucket_at, cast_within, cast_of}
use Rattle.index.specs.Rust.{rust_better, rust_walk, rust_cast}

better_rust : (r : (Option Float)) (edge : ℕ) (b : Best) → better_of 0 r edge b ≡ rust_better r edge b
better_rust None edge b = refl
better_rust (Some t) edge b = by (lt t b.t) (eq t b.t)
  where
    by : (p q : Bool) → cond p (best_of t edge) (cond q b b) ≡ cond p (best_of t edge) b
    by true q = refl
    by false true = refl
    by false false = refl

walk_rust : (slack : Float) (o dir : Vec2) (b : Best) (l : List LocalEdge) → walk_of slack o dir 0 b l ≡ rust_walk slack o dir b l
unfolding walk_of meet_of rust_walk
walk_rust slack o dir b [] = refl
walk_rust slack o dir b (e ∷ l) =
    let m = better_of 0 (ray_segment_within slack o dir e.a e.b) e.edge b in
    ap (λ (q : Best). cond (le b.t e.near) b q) (walk_rust slack o dir m l ∙ ap (λ (q : Best). rust_walk slack o dir q l) (better_rust (ray_segment_within slack o dir e.a e.b) e.edge b))

pub rust_cast_lem : (x : Index) → x.head.mode ≡ 0 → (o : Vec2) (angle : Float) (dir : Vec2) (max : Float) → cast_of x o angle dir max ≡ rust_cast x o angle dir max
unfolding cast_of cast_within rust_cast
rust_cast_lem x h o angle dir max =
    ap cast_by (ap (λ (m : ℕ). walk_of nano o dir m (none_yet max) (bucket_at x angle)) h ∙ walk_rust nano o dir (none_yet max) (bucket_at x angle))
