-- A cast: the nearest edge that a ray hits, among those of the ray's bucket: `AngularIndex::cast` (`visibility.rs`, lines 569 to 592).
-- Document 01: "An edge's distance and number, or a miss, is the answer of a cast; of equal distances the first met in order of nearness stays".
-- Document 02, Q-3: in the other mode "the lowest edge number among those it tests"; "the early stop on nearness must then let equal nearness through; an
-- edge at the range itself stays a miss". That mode 0 is the Rust's rule is `rust_cast_lem` (proofs/Rusts.antt, over specs/Rust.antt).
-- It is not said to be the nearest of all front edges: nearness and distance round differently ("Errors that look right", 1). Definitions only.
use Rattle.std.specs.Prelude.{ℕ, Bool, true, false, cond, List, [], ◌∷◌, ◌==◌, nat_lt, slice_index_or, Float, None, Option, Some}
use Rattle.std.specs.Float.Ieee.{lt, le, eq}
use Rattle.lists.specs.Lists.{filter}
use Rattle.num.specs.Ops.{◌⊖◌, zero_f}
use Rattle.num.specs.Num.{max_of}
use Rattle.geom.specs.Constants.{tau, nano}
use Rattle.geom.specs.Segment.{ray_segment_within}
use Rattle.geom.specs.declared.Vec2.{Vec2}
use Rattle.site.specs.Meets.{met_at}
use Rattle.room.specs.declared.LocalEdge.{LocalEdge}
use Rattle.index.specs.declared.Best.{Best}
use Rattle.index.specs.Spans.{bucket_of}
use Rattle.index.specs.Angular.{Index}
use Rattle.site.specs.Hits.{hit_at}
use Rattle.site.specs.declared.RayHit.{RayHit}

-- the best so far: the distance to beat, the number of the edge once one is found, and whether a further one was met at exactly that distance
abbrev pub best_of : Float → ℕ → Best
best_of t edge = record { t = t; edge = Some edge; tied = false }

abbrev pub tied_best : Float → ℕ → Best
tied_best t edge = record { t = t; edge = Some edge; tied = true }

abbrev pub none_yet : Float → Best
none_yet max = record { t = max; edge = None; tied = false }

-- what an edge, or none, at the distance t answers
abbrev pub cast_at : Float → (Option ℕ) → Option RayHit
cast_at t (Some e) = hit_at t e
cast_at t None = None

abbrev pub cast_by : Best → Option RayHit
cast_by b = cast_at b.t b.edge

-- the lower of the best's number and another, once there is one
abbrev pub lower_in : (Option ℕ) → ℕ → Best → Best
lower_in (Some e) edge b = tied_best b.t (cond (nat_lt edge e) edge e)
lower_in None edge b = b

-- of equal distances: in the Rust's mode, 0, the one found first stays; in the other the lower number does, once there is one. So an edge at the range itself
-- stays a miss
abbrev pub lower_of : ℕ → ℕ → Best → Best
lower_of mode edge b = cond (mode == 0) b (lower_in b.edge edge b)

-- the better of the best so far and the edge of this number, which the ray meets there or not
abbrev pub better_of : ℕ → (Option Float) → ℕ → Best → Best
better_of mode (Some t) edge b = cond (lt t b.t) (best_of t edge) (cond (eq t b.t) (lower_of mode edge b) b)
better_of mode None edge b = b

-- an edge so near ends the walk: in the Rust's mode one that is not nearer than the best distance, in the other one that is farther
abbrev pub stop_of : ℕ → Float → Float → Bool
stop_of mode best near = cond (mode == 0) (le best near) (lt best near)

-- the edges in turn, until one ends the walk
module _ (slack : Float) (o dir : Vec2) (mode : ℕ) where
  unfoldable pub meet_of : LocalEdge → Best → Best
  unfolding ray_segment_within
  meet_of e b = better_of mode (ray_segment_within slack o dir e.a e.b) e.edge b

  unfoldable pub walk_of : Best → List LocalEdge → Best
  unfolding meet_of
  walk_of b [] = b
  walk_of b (e ∷ es) = let rest = walk_of (meet_of e b) es in cond (stop_of mode b.t e.near) b rest

  -- the edges tested: those in front of the one that ends the walk
  unfoldable pub tested_of : Best → List LocalEdge → List LocalEdge
  unfolding meet_of
  tested_of b [] = []
  tested_of b (e ∷ es) = let rest = tested_of (meet_of e b) es in cond (stop_of mode b.t e.near) [] (e ∷ rest)

-- the ray meets the edge at exactly the distance t
unfoldable pub ties_at : Float → Vec2 → Vec2 → Float → LocalEdge → Bool
unfolding ray_segment_within
ties_at slack o dir t e = met_at t (ray_segment_within slack o dir e.a e.b)

-- an angle of a ray past the seam of a full circle is brought back, and one before the start counts as the start
abbrev pub turned_of : Float → Float
turned_of angle = cond (le tau angle) (angle ⊖ tau) angle

-- the edges of the bucket that the angle lies in
unfoldable pub bucket_at : Index → Float → List LocalEdge
unfolding bucket_of max_of
bucket_at x angle = slice_index_or x.buckets (bucket_of x.head (max_of (turned_of angle) zero_f)) []

-- What the ray from o along dir, at the angle from the cone's start, hits within max. `slack` is how far beyond an edge's ends, as a share of its
-- length, a hit still counts. The mode is the index's
unfoldable pub cast_within : Float → Index → Vec2 → Float → Vec2 → Float → Option RayHit
unfolding walk_of bucket_at
cast_within slack x o angle dir max = cast_by (walk_of slack o dir x.head.mode (none_yet max) (bucket_at x angle))

-- the cast of the Rust: the slack of `ray_segment`, 1e-9
unfoldable pub cast_of : Index → Vec2 → Float → Vec2 → Float → Option RayHit
unfolding cast_within
cast_of x o angle dir max = cast_within nano x o angle dir max

-- whether it met a further edge at exactly the distance that it answered, which only mode 1 tells
unfoldable pub is_tied : Index → Vec2 → Float → Vec2 → Float → Bool
unfolding walk_of bucket_at
is_tied x o angle dir max = (walk_of nano o dir x.head.mode (none_yet max) (bucket_at x angle)).tied

-- the edges that this cast tests
unfoldable pub tested_in : Index → Vec2 → Float → Vec2 → Float → List LocalEdge
unfolding tested_of bucket_at
tested_in x o angle dir max = tested_of nano o dir x.head.mode (none_yet max) (bucket_at x angle)

-- those of them that it meets at exactly the distance t. Where t is what it answered they are the tied ones
unfoldable pub tied_of : Index → Vec2 → Float → Vec2 → Float → Float → List LocalEdge
unfolding tested_in ties_at
tied_of x o angle dir max t = filter (ties_at nano o dir t) (tested_in x o angle dir max)
