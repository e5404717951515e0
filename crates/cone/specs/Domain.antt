-- A cone in the domain, and a cone as it is used. Document 01, "Domain": "coordinates and origins finite, each from -1,000,000 to 1,000,000; .. range at most
-- 1,000,000 or NaN; direction finite, -100 to 100; field of view anything but NaN"; "Minus zero on input is loaded as plus zero". Definitions only, but for the
-- decimal of a constant.
use Rattle.std.specs.Prelude.{◌≡◌, refl, Bool, false, not, ◌&&◌, Float}
use Rattle.std.specs.Float.{binary64}
use Rattle.std.specs.Float.Ieee.{of_bits, round, neg, is_nan, lt, le}
use Rattle.bounds.specs.Domain.{million}
use Rattle.site.specs.Domain.{point_in_domain, load_of, load_point_of}
use Rattle.cone.specs.declared.ViewCone.{ViewCone}
use Rattle.cone.specs.Cone.{cone_of}

abbrev pub hundred : Float
hundred = of_bits binary64 0x4059_0000_0000_0000

pub hundred_is : hundred ≡ round binary64 false 100 1
unfolding of_bits round
hundred_is = refl

-- a NaN is no direction; a range that is NaN or minus infinity is inside
unfoldable pub cone_in_domain : ViewCone → Bool
cone_in_domain c =
    point_in_domain c.origin
    && not (lt million c.range)
    && le (neg hundred) c.direction
    && le c.direction hundred
    && not (is_nan c.fov)

-- each number loaded
unfoldable pub load_cone_of : ViewCone → ViewCone
load_cone_of c = cone_of (load_point_of c.origin) (load_of c.range) (load_of c.direction) (load_of c.fov)
