-- Two numbers that several stages of an outline share. Definitions only.
use Rattle.std.specs.Prelude.{◌≡◌, refl, false, ℕ, ◌^◌, Float}
use Rattle.std.specs.Float.{binary64}
use Rattle.std.specs.Float.Ieee.{round, of_bits}

-- the vertex of an event that has none
abbrev pub no_vertex : ℕ
no_vertex = 4294967295

-- 1e-8: `ANGLE_EPS` (`visibility.rs`, line 35), how far off its event a ray is
abbrev pub angle_eps : Float
angle_eps = of_bits binary64 0x3e45_798e_e230_8c3a

pub angle_eps_is : angle_eps ≡ round binary64 false 1 (10 ^ 8)
unfolding of_bits round
angle_eps_is = refl
