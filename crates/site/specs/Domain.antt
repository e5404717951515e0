-- Points and boxes in the domain, and loading. Document 01, "Domain": coordinates and origins finite, each from -1,000,000 to 1,000,000 (`in_domain` of
-- crate `bounds`); "Minus zero on input is loaded as plus zero". Assumes nothing.
use Rattle.std.specs.Prelude.{◌≡◌, refl, Bool, ◌&&◌, Float}
use Rattle.std.specs.Float.{binary64}
use Rattle.std.specs.Float.Ieee.{add, of_bits, round}
use Rattle.num.specs.Ops.{◌⊕◌, zero_f}
use Rattle.geom.specs.declared.Vec2.{Vec2}
use Rattle.geom.specs.declared.Aabb.{Aabb}
use Rattle.geom.specs.Vec.{vec}
use Rattle.geom.specs.Box.{box}
use Rattle.bounds.specs.Domain.{in_domain}

-- a point's coordinates
unfoldable pub point_in_domain : Vec2 → Bool
point_in_domain p = in_domain p.x && in_domain p.y

-- a box's corners
unfoldable pub box_in_domain : Aabb → Bool
box_in_domain b = point_in_domain b.min && point_in_domain b.max

-- ---- loading
unfoldable pub load_of : Float → Float
load_of x = x ⊕ zero_f

unfoldable pub load_point_of : Vec2 → Vec2
load_point_of p = vec (load_of p.x) (load_of p.y)

unfoldable pub load_box_of : Aabb → Aabb
load_box_of b = box (load_point_of b.min) (load_point_of b.max)

-- minus zero is loaded as plus zero
pub load_minus_zero : load_of (of_bits binary64 0x8000_0000_0000_0000) ≡ zero_f
unfolding load_of add of_bits round
load_minus_zero = refl
