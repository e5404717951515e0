-- Beside the outline call: the area of an outline (`Visibility::area`, `visibility.rs`) and the arc tolerance of `VisibilityOptions::default()`. Definitions only,
-- but for the decimal of a constant.
use Rattle.std.specs.Prelude.{◌≡◌, refl, false, List, Float}
use Rattle.std.specs.Float.{binary64}
use Rattle.std.specs.Float.Ieee.{of_bits, round}
use Rattle.num.specs.Num.{abs_of}
use Rattle.geom.specs.Ring.{signed_area_of}

-- `Visibility::area`
unfoldable pub area_of : List Float → Float
area_of outline = abs_of (signed_area_of outline)

-- the arc tolerance of `VisibilityOptions::default()`
abbrev pub tenth : Float
tenth = of_bits binary64 0x3fb9_9999_9999_999a

pub tenth_is : tenth ≡ round binary64 false 1 10
unfolding of_bits round
tenth_is = refl
