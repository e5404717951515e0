-- `Vec2` of `geom.rs`: each method as the Rust computes it, one rounding for each operation, in the Rust's order. Definitions only.
use Rattle.std.specs.Prelude.{Float}
use Rattle.std.specs.Float.Ieee.{neg}
use Rattle.num.specs.Ops.{◌⊕◌, ◌⊖◌, ◌⊗◌, zero_f}
use Rattle.num.specs.Root.{sqrt_of}
use Rattle.angle.specs.Angles.{sin_of, cos_of, atan2_of}
use Rattle.geom.specs.declared.Vec2.{Vec2}

-- the point or vector (x, y)
abbrev pub vec : Float → Float → Vec2
vec x y = record { x = x; y = y }

abbrev pub origin : Vec2
origin = vec zero_f zero_f

-- the unit vector at an angle
unfoldable pub from_angle_of : Float → Vec2
from_angle_of a = vec (cos_of a) (sin_of a)

unfoldable pub dot_of : Vec2 → Vec2 → Float
dot_of a b = a.x ⊗ b.x ⊕ a.y ⊗ b.y

unfoldable pub cross_of : Vec2 → Vec2 → Float
cross_of a b = a.x ⊗ b.y ⊖ a.y ⊗ b.x

unfoldable pub length_sq_of : Vec2 → Float
length_sq_of a = dot_of a a

unfoldable pub length_of : Vec2 → Float
length_of a = sqrt_of (length_sq_of a)

unfoldable pub add_of : Vec2 → Vec2 → Vec2
add_of a b = vec (a.x ⊕ b.x) (a.y ⊕ b.y)

unfoldable pub sub_of : Vec2 → Vec2 → Vec2
sub_of a b = vec (a.x ⊖ b.x) (a.y ⊖ b.y)

-- a scaled by s
unfoldable pub mul_of : Vec2 → Float → Vec2
mul_of a s = vec (a.x ⊗ s) (a.y ⊗ s)

unfoldable pub neg_of : Vec2 → Vec2
neg_of a = vec (neg a.x) (neg a.y)

unfoldable pub distance_of : Vec2 → Vec2 → Float
distance_of a b = length_of (sub_of a b)

unfoldable pub distance_sq_of : Vec2 → Vec2 → Float
distance_sq_of a b = length_sq_of (sub_of a b)

unfoldable pub angle_of : Vec2 → Float
angle_of a = atan2_of a.y a.x

unfoldable pub lerp_of : Vec2 → Vec2 → Float → Vec2
lerp_of a b t = add_of a (mul_of (sub_of b a) t)
