-- One polygon edge as seen from the post: whether the post stands on it, and, where it faces the post, its part in range with the two ends as
-- events. `visibility.rs`, lines 284 to 324: the formulas and tests of the Rust, one rounding for each operation, in the Rust's order.
-- Document 01, "Outlines from a post". Definitions only.
use Rattle.std.specs.Prelude.{ℕ, Bool, false, ◌&&◌, ◌||◌, cond, Option, Some, None, Float}
use Rattle.std.specs.Float.Ieee.{le}
use Rattle.num.specs.Ops.{◌⊖◌, ◌⊗◌, zero_f, one_f}
use Rattle.geom.specs.declared.Vec2.{Vec2}
use Rattle.geom.specs.Constants.{nano}
use Rattle.geom.specs.Vec.{cross_of, length_sq_of, sub_of, angle_of, lerp_of}
use Rattle.geom.specs.Segment.{normal_of, clip_segment_to_disk_of, point_segment_distance_of}
use Rattle.cone.specs.declared.View.{View}
use Rattle.room.specs.Constants.{no_vertex}
use Rattle.room.specs.declared.LocalEdge.{LocalEdge}
use Rattle.room.specs.declared.Event.{Event}
use Rattle.fan.specs.declared.FrontEdge.{FrontEdge}
use Rattle.fan.specs.declared.Found.{Found}

-- negative where the edge a..b faces o
unfoldable pub facing : Vec2 → Vec2 → Vec2 → Float
facing o a b = cross_of (sub_of b a) (sub_of o a)

-- "A post within 1e-9 of a candidate's edge, by the two tests of the Rust": its distance to the edge's line, squared, and to the edge
unfoldable pub touches_of : Vec2 → Vec2 → Vec2 → Bool
touches_of o a b =
    le (facing o a b ⊗ facing o a b) (nano ⊗ nano ⊗ length_sq_of (sub_of b a))
    && le (point_segment_distance_of o a b) nano

-- the Rust's closure `rel`: the angle of p seen from the post, from the view's start on
unfoldable pub rel_of : View → Vec2 → Float
rel_of v p = normal_of (angle_of (sub_of p v.o) ⊖ v.start)

-- where the part in range starts and ends: a corner stays as it is, bit for bit
unfoldable pub start_of : Vec2 → Vec2 → Float → Vec2
start_of a b t0 = cond (le t0 zero_f) a (lerp_of a b t0)

unfoldable pub stop_of : Vec2 → Vec2 → Float → Vec2
stop_of a b t1 = cond (le one_f t1) b (lerp_of a b t1)

-- an end of a front edge, at an angle: at the corner of number i, or where the range cuts the edge
abbrev pub end_at : Float → Bool → ℕ → Event
end_at angle corner i = record { angle = angle; vertex = cond corner i no_vertex; side = false }

-- it is an event where the view holds it
unfoldable pub end_of : View → Float → Bool → ℕ → Option Event
end_of v angle corner i = cond (v.full || le angle v.fov) (Some (end_at angle corner i)) None

-- the part of the edge i from p to q, which are seen from o at the angles rp and rq. Facing means that q is clockwise of p, so it covers rq to rp
unfoldable pub part_of : Vec2 → Vec2 → Vec2 → Float → Float → ℕ → LocalEdge
part_of o p q rp rq i = record {
  a = p;
  b = q;
  near = point_segment_distance_of o p q;
  edge = i;
  span_start = rq;
  span_len = normal_of (rp ⊖ rq);
}

-- the edge from the corner i at a to the corner j at b, of which the range holds the share from t0 to t1
unfoldable pub clipped_of : View → Vec2 → Vec2 → ℕ → ℕ → Float → Float → FrontEdge
clipped_of v a b i j t0 t1 =
    let p = start_of a b t0 in
    let q = stop_of a b t1 in
    let rp = rel_of v p in
    let rq = rel_of v q in
    record { edge = part_of v.o p q rp rq i; start = end_of v rp (le t0 zero_f) i; stop = end_of v rq (le one_f t1) j }

abbrev pub in_range : View → Vec2 → Vec2 → ℕ → ℕ → (Option (Float × Float)) → Option FrontEdge
in_range v a b i j (Some (t0, t1)) = Some (clipped_of v a b i j t0 t1)
in_range v a b i j None = None

-- "Front edges have a negative computed cross product"; one out of range is left out as one that faces away
unfoldable pub front_of : View → Vec2 → Vec2 → ℕ → ℕ → Option FrontEdge
front_of v a b i j = cond (le zero_f (facing v.o a b)) None (in_range v a b i j (clip_segment_to_disk_of a b v.o v.r))

unfoldable pub found_of : View → Vec2 → Vec2 → ℕ → ℕ → Found
found_of v a b i j = record { touch = touches_of v.o a b; seen = front_of v a b i j }
