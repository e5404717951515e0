-- Angles, rays, segments and circles of `geom.rs`: the formulas and tests of the Rust, one rounding for each operation, in the Rust's order.
-- A test that a NaN enters fails, as in the Rust. Definitions only.
use Rattle.std.specs.Prelude.{Bool, cond, ◌&&◌, Float, Option, Some, None, is_some, List, [], ◌∷◌}
use Rattle.std.specs.Float.Ieee.{neg, lt, le}
use Rattle.num.specs.Ops.{◌⊕◌, ◌⊖◌, ◌⊗◌, ◌⊘◌, zero_f, one_f}
use Rattle.num.specs.Num.{abs_of, min_of, max_of, clamp_of, rem_euclid_of}
use Rattle.num.specs.Root.{sqrt_of}
use Rattle.geom.specs.declared.Vec2.{Vec2}
use Rattle.geom.specs.Constants.{tau, two, four, nano, flat, speck}
use Rattle.geom.specs.Vec.{dot_of, cross_of, length_sq_of, add_of, sub_of, mul_of, distance_of}

-- an angle brought to 0 up to below TAU
unfoldable pub normal_of : Float → Float
normal_of a = let r = rem_euclid_of a tau in cond (le tau r) zero_f r

-- Rust's `(low..=high).contains(&x)`
abbrev pub within : Float → Float → Float → Bool
within low high x = le low x && le x high

-- directions with this cross product count as parallel
unfoldable pub is_flat : Float → Bool
is_flat denom = lt (abs_of denom) flat

-- How far along the ray from o in the direction d the segment from a to b is met, in units of d. `slack` is how far beyond the segment's ends,
-- as a share of its length, a hit still counts: the Rust's `U_EPS`.
unfoldable pub ray_segment_within : Float → Vec2 → Vec2 → Vec2 → Vec2 → Option Float
ray_segment_within slack o d a b =
    let e = sub_of b a in
    let denom = cross_of d e in
    let ao = sub_of a o in
    let t = cross_of ao e ⊘ denom in
    let u = cross_of ao d ⊘ denom in
    cond (is_flat denom) None (cond (lt nano t && within (neg slack) (one_f ⊕ slack) u) (Some t) None)

unfoldable pub ray_segment_of : Vec2 → Vec2 → Vec2 → Vec2 → Option Float
ray_segment_of o d a b = ray_segment_within nano o d a b

-- where the closed segments p1..p2 and p3..p4 meet; parallel ones nowhere
unfoldable pub segment_intersection_of : Vec2 → Vec2 → Vec2 → Vec2 → Option Vec2
segment_intersection_of p1 p2 p3 p4 =
    let r = sub_of p2 p1 in
    let s = sub_of p4 p3 in
    let denom = cross_of r s in
    let qp = sub_of p3 p1 in
    let t = cross_of qp s ⊘ denom in
    let u = cross_of qp r ⊘ denom in
    cond (is_flat denom) None (cond (within zero_f one_f t && within zero_f one_f u) (Some (add_of p1 (mul_of r t))) None)

unfoldable pub segments_intersect_of : Vec2 → Vec2 → Vec2 → Vec2 → Bool
segments_intersect_of p1 p2 p3 p4 = is_some (segment_intersection_of p1 p2 p3 p4)

-- ---- a segment and a circle: |f + t d| = radius, with f from the centre to a and d from a to b, is the quadratic qa t² + qb t + qc = 0
abbrev pub linear : Vec2 → Vec2 → Float
linear f d = two ⊗ dot_of f d

abbrev pub constant : Vec2 → Float → Float
constant f radius = length_sq_of f ⊖ radius ⊗ radius

abbrev pub discriminant : Float → Float → Float → Float
discriminant qa qb qc = qb ⊗ qb ⊖ four ⊗ qa ⊗ qc

abbrev pub lower : Float → Float → Float → Float
lower qa qb sq = (neg qb ⊖ sq) ⊘ (two ⊗ qa)

abbrev pub higher : Float → Float → Float → Float
higher qa qb sq = (neg qb ⊕ sq) ⊘ (two ⊗ qa)

-- the share of a..b that lies in the disk, from one parameter to another. Of -0 and +0 Rust's pages let `max` give either; the Rust's own code gives the
-- constant there, so the constant stands first.
unfoldable pub clip_segment_to_disk_of : Vec2 → Vec2 → Vec2 → Float → Option (Float × Float)
clip_segment_to_disk_of a b c radius =
    let d = sub_of b a in
    let f = sub_of a c in
    let qa = length_sq_of d in
    let qb = linear f d in
    let disc = discriminant qa qb (constant f radius) in
    let t0 = max_of zero_f (lower qa qb (sqrt_of disc)) in
    let t1 = min_of (higher qa qb (sqrt_of disc)) one_f in
    cond (lt qa speck) (cond (le (length_sq_of f) (radius ⊗ radius)) (Some (zero_f, one_f)) None)
    (cond (lt disc zero_f) None (cond (le t0 t1) (Some (t0, t1)) None))

-- the point of the line at t, where t lies on the segment
unfoldable pub pick_of : Vec2 → Vec2 → Float → Option Vec2
pick_of a d t = cond (within zero_f one_f t) (Some (add_of a (mul_of d t))) None

abbrev pub both : Option Vec2 → Option Vec2 → List (Option Vec2)
both m n = m ∷ n ∷ []

-- where a..b crosses the circle
unfoldable pub segment_circle_points_of : Vec2 → Vec2 → Vec2 → Float → List (Option Vec2)
segment_circle_points_of a b c radius =
    let d = sub_of b a in
    let f = sub_of a c in
    let qa = length_sq_of d in
    let qb = linear f d in
    let disc = discriminant qa qb (constant f radius) in
    cond (lt qa speck) (both None None)
    (cond (lt disc zero_f) (both None None)
    (both (pick_of a d (lower qa qb (sqrt_of disc))) (pick_of a d (higher qa qb (sqrt_of disc)))))

-- the parameter of the point of a..a + d that is nearest to a + w
unfoldable pub nearest_share_of : Vec2 → Vec2 → Float
nearest_share_of w d = let l = length_sq_of d in cond (lt zero_f l) (clamp_of (dot_of w d ⊘ l) zero_f one_f) zero_f

unfoldable pub point_segment_distance_of : Vec2 → Vec2 → Vec2 → Float
point_segment_distance_of p a b = let d = sub_of b a in distance_of (add_of a (mul_of d (nearest_share_of (sub_of p a) d))) p
