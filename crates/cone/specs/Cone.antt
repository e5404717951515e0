-- The view cone: `visibility.rs`, lines 41 to 137 (`ViewCone`), 248 to 251 and 265 (what `compute_visibility` takes from it), and 724 to 732
-- (`arc_step`). `tau`, `nano` and `two` are those of the crate `geom`, `k_pi` and `k_pi2` (half of pi) those of the crate `angle`.
-- `min_of`, `max_of` and `clamp_of` are Rust's. Definitions only, and two constants checked.
use Rattle.std.specs.Prelude.{◌≡◌, refl, Bool, false, cond, List, [], ◌∷◌, ℕ, ◌+◌, max, length, pos, Float}
use Rattle.std.proofs.lemmas.List.Edits.{sets}
use Rattle.std.specs.Float.{binary64}
use Rattle.std.specs.Float.Ieee.{le, of_bits, of_int, round, to_unsigned}
use Rattle.num.specs.Ops.{◌⊕◌, ◌⊖◌, ◌⊗◌, ◌⊘◌, zero_f, one_f}
use Rattle.num.specs.Num.{ceil_of, max_of, clamp_of}
use Rattle.angle.specs.Angles.{acos_of, k_pi, k_pi2}
use Rattle.lists.specs.Lists.{listed}
use Rattle.geom.specs.declared.Vec2.{Vec2}
use Rattle.geom.specs.declared.Aabb.{Aabb}
use Rattle.geom.specs.Constants.{tau, nano, two}
use Rattle.geom.specs.Vec.{from_angle_of, add_of, mul_of}
use Rattle.geom.specs.Box.{box, around_of, include_of}
use Rattle.geom.specs.Segment.{normal_of}
use Rattle.cone.specs.declared.ViewCone.{ViewCone}
use Rattle.cone.specs.declared.View.{View}

-- ---- constants
abbrev pub three : Float
three = of_bits binary64 0x4008_0000_0000_0000

pub three_is : three ≡ round binary64 false 3 1
unfolding of_bits round
three_is = refl

-- 1e-3: the least step of an arc
abbrev pub milli : Float
milli = of_bits binary64 0x3f50_624d_d2f1_a9fc

pub milli_is : milli ≡ round binary64 false 1 1000
unfolding of_bits round
milli_is = refl

-- ---- the cone
abbrev pub cone_of : Vec2 → Float → Float → Float → ViewCone
cone_of origin range direction fov = record { origin = origin; range = range; direction = direction; fov = fov }

abbrev pub full_of : Vec2 → Float → ViewCone
full_of origin range = cone_of origin range zero_f tau

-- the bound is computed: one rounding
unfoldable pub is_full_of : ViewCone → Bool
is_full_of c = le (tau ⊖ nano) c.fov

unfoldable pub fov_clamped_of : ViewCone → Float
fov_clamped_of c = clamp_of c.fov zero_f tau

unfoldable pub start_angle_of : ViewCone → Float
start_angle_of c = cond (is_full_of c) (c.direction ⊖ k_pi) (c.direction ⊖ fov_clamped_of c ⊘ two)

-- the opening angle that is used
unfoldable pub fov_of : ViewCone → Float
fov_of c = cond (is_full_of c) tau (fov_clamped_of c)

-- the range, or 0 where it is negative or NaN
unfoldable pub reach_of : ViewCone → Float
reach_of c = max_of c.range zero_f

-- what an outline goes by
abbrev pub view_of : ViewCone → View
view_of c = record { o = c.origin; r = c.range; full = is_full_of c; fov = fov_of c; start = start_angle_of c }

-- ---- the box around it
-- the point at an angle of the circle of radius r around o
unfoldable pub rim_of : Vec2 → Float → Float → Vec2
rim_of o r angle = add_of o (mul_of (from_angle_of angle) r)

-- the box b, grown by the circle's point on an axis where the sector reaches that axis
unfoldable pub with_axis : Aabb → View → Float → Float → Aabb
with_axis b v r axis = cond (le (normal_of (axis ⊖ v.start)) v.fov) (include_of b (rim_of v.o r axis)) b

-- the sector's corner, the ends of its arc, and then the four axes
unfoldable pub sector_box_of : View → Float → Aabb
sector_box_of v r =
    let corner = box v.o v.o in
    let ends = include_of (include_of corner (rim_of v.o r v.start)) (rim_of v.o r (v.start ⊕ v.fov)) in
    let first = with_axis ends v r (zero_f ⊗ k_pi2) in
    let second = with_axis first v r (one_f ⊗ k_pi2) in
    let third = with_axis second v r (two ⊗ k_pi2) in
    with_axis third v r (three ⊗ k_pi2)

unfoldable pub aabb_of : ViewCone → Aabb
aabb_of c = cond (is_full_of c) (around_of c.origin (reach_of c)) (sector_box_of (view_of c) (reach_of c))

-- ---- its own outline
-- the step of an arc of radius r; the tolerance is at least a billionth
unfoldable pub arc_step_of : Float → Float → Float
arc_step_of r tolerance =
    let held = max_of tolerance nano in
    cond (le r held) k_pi2 (clamp_of (two ⊗ acos_of (one_f ⊖ held ⊘ r)) milli k_pi2)

-- how many steps: 1 at least, also where the quotient is NaN
unfoldable pub steps_of : ViewCone → Float → ℕ
steps_of c tolerance = max (to_unsigned 64 (ceil_of (fov_of c ⊘ arc_step_of (reach_of c) tolerance))) 1

-- the point k of an arc of n steps
unfoldable pub arc_point_of : View → Float → ℕ → ℕ → Vec2
arc_point_of v r n k = rim_of v.o r (v.start ⊕ v.fov ⊗ of_int binary64 (pos k) ⊘ of_int binary64 (pos n))

-- its first m points
abbrev pub arc_of : View → Float → ℕ → ℕ → List Vec2
arc_of v r n m = listed (arc_point_of v r n) m

-- a circle: a point for each step; a sector: its corner, and a point more than steps
unfoldable pub outline_of : ViewCone → Float → List Vec2
outline_of c tolerance =
    let n = steps_of c tolerance in
    cond (is_full_of c) (arc_of (view_of c) (reach_of c) n n) (c.origin ∷ arc_of (view_of c) (reach_of c) n (n + 1))

-- points as numbers: x and y by turns
abbrev pub numbers_of : List Vec2 → List Float
numbers_of [] = []
numbers_of (p ∷ l) = p.x ∷ p.y ∷ numbers_of l

-- the outline was written over `old`, as far as there is room, and n is how many points it has
pub record Drawn (c : ViewCone) (tolerance : Float) (old new : List Float) (n : ℕ) : Type 0 where
  pub count : n ≡ length (outline_of c tolerance)
  pub points : new ≡ sets old 0 (numbers_of (outline_of c tolerance))
