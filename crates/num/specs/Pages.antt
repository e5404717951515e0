-- Sentences of Rust's pages on `min`, `max` and `clamp`, and worked values of the definitions, checked by computing them.
-- Assumes nothing.
use Rattle.std.specs.Prelude.{◌≡◌, ℕ, List, [], ◌∷◌, refl, Float}
use Rattle.std.specs.Float.{nan, inf, fin, binary64}
use Rattle.std.specs.Float.Ieee.{lt, is_nan, of_bits, to_bits}
use Rattle.num.specs.Num.{floor_of, ceil_of, min_of, max_of, clamp_of, rem_euclid_of}
use Rattle.num.specs.Root.{sqrt_of}

-- "If one of the arguments is NaN, then the other argument is returned"
pub min_nan_left : (y : Float) → min_of nan y ≡ y
unfolding min_of lt is_nan
min_nan_left nan = refl
min_nan_left (inf s) = refl
min_nan_left (fin s m e) = refl

pub min_nan_right : (x : Float) → min_of x nan ≡ x
unfolding min_of lt is_nan
min_nan_right nan = refl
min_nan_right (inf s) = refl
min_nan_right (fin s m e) = refl

pub max_nan_left : (y : Float) → max_of nan y ≡ y
unfolding max_of lt is_nan
max_nan_left nan = refl
max_nan_left (inf s) = refl
max_nan_left (fin s m e) = refl

pub max_nan_right : (x : Float) → max_of x nan ≡ x
unfolding max_of lt is_nan
max_nan_right nan = refl
max_nan_right (inf s) = refl
max_nan_right (fin s m e) = refl

-- "this function returns NaN if the initial value was NaN as well"
pub clamp_nan : (lo hi : Float) → clamp_of nan lo hi ≡ nan
unfolding clamp_of lt
clamp_nan nan nan = refl
clamp_nan nan (inf t) = refl
clamp_nan nan (fin t n d) = refl
clamp_nan (inf s) nan = refl
clamp_nan (inf s) (inf t) = refl
clamp_nan (inf s) (fin t n d) = refl
clamp_nan (fin s m e) nan = refl
clamp_nan (fin s m e) (inf t) = refl
clamp_nan (fin s m e) (fin t n d) = refl

-- floor of -3.5, of 3.5 and of -0; ceiling of -3.5; the roots of 2 and of the smallest float; 7 modulo 4, -7 modulo 4 and -7 modulo -4 (the examples of the page on `rem_euclid`)
worked : List ℕ
unfolding to_bits of_bits floor_of ceil_of sqrt_of rem_euclid_of
worked =
    to_bits binary64 (floor_of (of_bits binary64 0xc00c_0000_0000_0000))
    ∷ to_bits binary64 (floor_of (of_bits binary64 0x400c_0000_0000_0000))
    ∷ to_bits binary64 (floor_of (of_bits binary64 0x8000_0000_0000_0000))
    ∷ to_bits binary64 (ceil_of (of_bits binary64 0xc00c_0000_0000_0000))
    ∷ to_bits binary64 (sqrt_of (of_bits binary64 0x4000_0000_0000_0000))
    ∷ to_bits binary64 (sqrt_of (of_bits binary64 1))
    ∷ to_bits binary64 (rem_euclid_of (of_bits binary64 0x401c_0000_0000_0000) (of_bits binary64 0x4010_0000_0000_0000))
    ∷ to_bits binary64 (rem_euclid_of (of_bits binary64 0xc01c_0000_0000_0000) (of_bits binary64 0x4010_0000_0000_0000))
    ∷ to_bits binary64 (rem_euclid_of (of_bits binary64 0xc01c_0000_0000_0000) (of_bits binary64 0xc010_0000_0000_0000))
    ∷ []

worked_are
    : worked
    ≡ 0xc010_0000_0000_0000
    ∷ 0x4008_0000_0000_0000
    ∷ 0x8000_0000_0000_0000
    ∷ 0xc008_0000_0000_0000
    ∷ 0x3ff6_a09e_667f_3bcd
    ∷ 0x1e60_0000_0000_0000
    ∷ 0x4008_0000_0000_0000
    ∷ 0x3ff0_0000_0000_0000
    ∷ 0x3ff0_0000_0000_0000
    ∷ []
unfolding worked
worked_are = refl
