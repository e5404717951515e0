-- The domain of a site's numbers, as tests (document 01, "Domain"): a NaN fails every comparison, so both tests of each shut it out. Definitions only.
use Rattle.std.specs.Prelude.{Bool, ◌&&◌, Float}
use Rattle.std.specs.Float.{binary64}
use Rattle.std.specs.Float.Ieee.{of_bits, neg, le}
use Rattle.num.specs.Ops.{zero_f}

-- 1,000,000
abbrev pub million : Float
million = of_bits binary64 0x412e_8480_0000_0000

-- a coordinate: finite, from -1,000,000 to 1,000,000
unfoldable pub in_domain : Float → Bool
in_domain x = le (neg million) x && le x million

-- a site's width or height: finite, from 0 to 1,000,000
unfoldable pub in_size : Float → Bool
in_size x = le zero_f x && le x million
