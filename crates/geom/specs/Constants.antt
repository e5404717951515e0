-- The numbers that `geom.rs` writes out, by their bit patterns, each with the decimal that it is nearest to, checked by computing.
-- Zero and one are `zero_f` and `one_f` of the crate `num`. Assumes nothing.
use Rattle.std.specs.Prelude.{◌≡◌, ◌^◌, false, refl, Float}
use Rattle.std.specs.Float.{binary64}
use Rattle.std.specs.Float.Ieee.{round, of_bits}

abbrev pub half : Float
half = of_bits binary64 0x3fe0_0000_0000_0000

pub half_is : half ≡ round binary64 false 1 2
unfolding of_bits round
half_is = refl

abbrev pub two : Float
two = of_bits binary64 0x4000_0000_0000_0000

pub two_is : two ≡ round binary64 false 2 1
unfolding of_bits round
two_is = refl

abbrev pub four : Float
four = of_bits binary64 0x4010_0000_0000_0000

pub four_is : four ≡ round binary64 false 4 1
unfolding of_bits round
four_is = refl

-- `std::f64::consts::TAU`
abbrev pub tau : Float
tau = of_bits binary64 0x4019_21fb_5444_2d18

pub tau_is : tau ≡ round binary64 false 6283185307179586476925286766559 (10 ^ 30)
unfolding of_bits round
tau_is = refl

-- 1e-9: `U_EPS`, the slack of `ray_segment` along the edge; and the least distance of a hit
abbrev pub nano : Float
nano = of_bits binary64 0x3e11_2e0b_e826_d695

pub nano_is : nano ≡ round binary64 false 1 (10 ^ 9)
unfolding of_bits round
nano_is = refl

-- 1e-14: lines with a smaller cross product count as parallel
abbrev pub flat : Float
flat = of_bits binary64 0x3d06_849b_86a1_2b9b

pub flat_is : flat ≡ round binary64 false 1 (10 ^ 14)
unfolding of_bits round
flat_is = refl

-- 1e-24: a segment with a smaller squared length counts as a point
abbrev pub speck : Float
speck = of_bits binary64 0x3af3_57c2_99a8_8ea7

pub speck_is : speck ≡ round binary64 false 1 (10 ^ 24)
unfolding of_bits round
speck_is = refl
