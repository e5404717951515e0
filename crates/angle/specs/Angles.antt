-- Our sin, cos, atan2 and acos: each one written list of float operations, as docs/ANGLES.md tells it. Document 01, "Ported and left behind".
-- `⊕ ⊖ ⊗ ⊘` are the four operations of binary64, one rounding each. Definitions only.
use Rattle.std.specs.Prelude.{Bool, cond, Float}
use Rattle.std.specs.Float.{binary64}
use Rattle.std.specs.Float.Ieee.{neg, lt, le, eq, of_bits}
use Rattle.num.specs.Ops.{◌⊕◌, ◌⊖◌, ◌⊗◌, ◌⊘◌, zero_f, one_f}
use Rattle.num.specs.Root.{sqrt_of}

-- ---- constants, by bit pattern
abbrev pub k_s3 : Float
k_s3 = of_bits binary64 0x3fc5_5555_5555_5555

abbrev pub k_s5 : Float
k_s5 = of_bits binary64 0x3f81_1111_1111_1111

abbrev pub k_s7 : Float
k_s7 = of_bits binary64 0x3f2a_01a0_1a01_a01a

abbrev pub k_s9 : Float
k_s9 = of_bits binary64 0x3ec7_1de3_a556_c734

abbrev pub k_s11 : Float
k_s11 = of_bits binary64 0x3e5a_e645_67f5_44e4

abbrev pub k_s13 : Float
k_s13 = of_bits binary64 0x3de6_1246_13a8_6d09

abbrev pub k_s15 : Float
k_s15 = of_bits binary64 0x3d6a_e7f3_e733_b81f

abbrev pub k_s17 : Float
k_s17 = of_bits binary64 0x3ce9_52c7_7030_ad4a

abbrev pub k_c2 : Float
k_c2 = of_bits binary64 0x3fe0_0000_0000_0000

abbrev pub k_c4 : Float
k_c4 = of_bits binary64 0x3fa5_5555_5555_5555

abbrev pub k_c6 : Float
k_c6 = of_bits binary64 0x3f56_c16c_16c1_6c17

abbrev pub k_c8 : Float
k_c8 = of_bits binary64 0x3efa_01a0_1a01_a01a

abbrev pub k_c10 : Float
k_c10 = of_bits binary64 0x3e92_7e4f_b778_9f5c

abbrev pub k_c12 : Float
k_c12 = of_bits binary64 0x3e21_eed8_eff8_d898

abbrev pub k_c14 : Float
k_c14 = of_bits binary64 0x3da9_3974_a8c0_7c9d

abbrev pub k_c16 : Float
k_c16 = of_bits binary64 0x3d2a_e7f3_e733_b81f

abbrev pub k_a3 : Float
k_a3 = of_bits binary64 0x3fd5_5555_5555_5555

abbrev pub k_a5 : Float
k_a5 = of_bits binary64 0x3fc9_9999_9999_999a

abbrev pub k_a7 : Float
k_a7 = of_bits binary64 0x3fc2_4924_9249_2492

abbrev pub k_a9 : Float
k_a9 = of_bits binary64 0x3fbc_71c7_1c71_c71c

abbrev pub k_a11 : Float
k_a11 = of_bits binary64 0x3fb7_45d1_745d_1746

abbrev pub k_a13 : Float
k_a13 = of_bits binary64 0x3fb3_b13b_13b1_3b14

abbrev pub k_a15 : Float
k_a15 = of_bits binary64 0x3fb1_1111_1111_1111

abbrev pub k_a17 : Float
k_a17 = of_bits binary64 0x3fae_1e1e_1e1e_1e1e

abbrev pub k_minus_one : Float
k_minus_one = of_bits binary64 0xbff0_0000_0000_0000

abbrev pub k_four : Float
k_four = of_bits binary64 0x4010_0000_0000_0000

abbrev pub k_eighth : Float
k_eighth = of_bits binary64 0x3fc0_0000_0000_0000

abbrev pub k_quarter : Float
k_quarter = of_bits binary64 0x3fd0_0000_0000_0000

abbrev pub k_three8 : Float
k_three8 = of_bits binary64 0x3fd8_0000_0000_0000

abbrev pub k_half : Float
k_half = of_bits binary64 0x3fe0_0000_0000_0000

abbrev pub k_five8 : Float
k_five8 = of_bits binary64 0x3fe4_0000_0000_0000

abbrev pub k_three4 : Float
k_three4 = of_bits binary64 0x3fe8_0000_0000_0000

abbrev pub k_seven8 : Float
k_seven8 = of_bits binary64 0x3fec_0000_0000_0000

abbrev pub k_magic : Float
k_magic = of_bits binary64 0x4338_0000_0000_0000

abbrev pub k_two_over_pi : Float
k_two_over_pi = of_bits binary64 0x3fe4_5f30_6dc9_c883

abbrev pub k_minus_pi4 : Float
k_minus_pi4 = of_bits binary64 0xbfe9_21fb_5444_2d18

abbrev pub k_pi4 : Float
k_pi4 = of_bits binary64 0x3fe9_21fb_5444_2d18

abbrev pub k_pi4_lo : Float
k_pi4_lo = of_bits binary64 0x3c81_a626_3314_5c07

abbrev pub k_pi2 : Float
k_pi2 = of_bits binary64 0x3ff9_21fb_5444_2d18

abbrev pub k_pi2_lo : Float
k_pi2_lo = of_bits binary64 0x3c91_a626_3314_5c07

abbrev pub k_pi : Float
k_pi = of_bits binary64 0x4009_21fb_5444_2d18

abbrev pub k_pi_lo : Float
k_pi_lo = of_bits binary64 0x3ca1_a626_3314_5c07

abbrev pub k_minus_pi : Float
k_minus_pi = of_bits binary64 0xc009_21fb_5444_2d18

abbrev pub k_cut1 : Float
k_cut1 = of_bits binary64 0x3ff9_21fb_5444_2d00

abbrev pub k_cut2 : Float
k_cut2 = of_bits binary64 0x3cf8_4698_98cc_5100

abbrev pub k_cut3 : Float
k_cut3 = of_bits binary64 0x3a1c_06e0_e689_4812

abbrev pub k_at14 : Float
k_at14 = of_bits binary64 0x3fcf_5b75_f92c_80dd

abbrev pub k_at14_lo : Float
k_at14_lo = of_bits binary64 0x3c68_ab6e_3cf7_afbd

abbrev pub k_at12 : Float
k_at12 = of_bits binary64 0x3fdd_ac67_0561_bb4f

abbrev pub k_at12_lo : Float
k_at12_lo = of_bits binary64 0x3c7a_2b7f_222f_65e2

abbrev pub k_at34 : Float
k_at34 = of_bits binary64 0x3fe4_978f_a326_9ee1

abbrev pub k_at34_lo : Float
k_at34_lo = of_bits binary64 0x3c72_419a_87f2_a458

abbrev pub k_tiny : Float
k_tiny = of_bits binary64 0x20b0_0000_0000_0000

abbrev pub k_huge : Float
k_huge = of_bits binary64 0x5f30_0000_0000_0000

-- c - p * z: one step of Horner's rule for a series with alternating signs; every p stays positive
abbrev pub step : Float → Float → Float → Float
step z c p = c ⊖ p ⊗ z

-- ---- sine and cosine from -pi/4 to pi/4: the series through degree 17 and 16
unfoldable pub sin_near : Float → Float
sin_near r = let z = r ⊗ r in r ⊗ (step z one_f (step z k_s3 (step z k_s5 (step z k_s7 (step z k_s9 (step z k_s11 (step z k_s13 (step z k_s15 k_s17))))))))

unfoldable pub cos_near : Float → Float
cos_near r = let z = r ⊗ r in step z one_f (step z k_c2 (step z k_c4 (step z k_c6 (step z k_c8 (step z k_c10 (step z k_c12 (step z k_c14 k_c16)))))))

-- ---- the nearest count of quarter turns, what is left, and the count modulo 4 as -2, -1, 0, 1 or 2
abbrev pub whole : Float → Float
whole x = x ⊕ k_magic ⊖ k_magic

unfoldable pub turns : Float → Float
turns x = whole (x ⊗ k_two_over_pi)

unfoldable pub left : Float → Float → Float
left x k = x ⊖ k ⊗ k_cut1 ⊖ k ⊗ k_cut2 ⊖ k ⊗ k_cut3

unfoldable pub quadrant : Float → Float
quadrant k = k ⊖ k_four ⊗ whole (k ⊗ k_quarter)

-- the one of four by the quadrant
unfoldable pub pick : Float → Float → Float → Float → Float → Float
pick q a b c d = cond (eq q zero_f) a (cond (eq q one_f) b (cond (eq q k_minus_one) c d))

unfoldable pub sin_far : Float → Float
sin_far x = let k = turns x in let r = left x k in pick (quadrant k) (sin_near r) (cos_near r) (neg (cos_near r)) (neg (sin_near r))

unfoldable pub cos_far : Float → Float
cos_far x = let k = turns x in let r = left x k in pick (quadrant k) (cos_near r) (neg (sin_near r)) (sin_near r) (neg (cos_near r))

unfoldable pub sin_of : Float → Float
sin_of x = cond (le k_minus_pi4 x) (cond (le x k_pi4) (sin_near x) (sin_far x)) (sin_far x)

unfoldable pub cos_of : Float → Float
cos_of x = cond (le k_minus_pi4 x) (cond (le x k_pi4) (cos_near x) (cos_far x)) (cos_far x)

-- ---- arc tangent of n / d from 0 to 1, by the nearest quarter
-- c + p * y: one step of Horner's rule with plus signs
abbrev pub climb : Float → Float → Float → Float
climb y c p = c ⊕ p ⊗ y

-- what the series takes away from w: w ^ 3 / 3 - w ^ 5 / 5 + .. - w ^ 17 / 17, as w ^ 3 times (even terms less w ^ 2 times odd terms), both in w ^ 4
unfoldable pub tail : Float → Float
tail w =
    let z = w ⊗ w in
    let y = z ⊗ z in
    let even = climb y k_a3 (climb y k_a7 (climb y k_a11 k_a15)) in
    let odd = climb y k_a5 (climb y k_a9 (climb y k_a13 k_a17)) in
    w ⊗ z ⊗ (even ⊖ odd ⊗ z)

-- atan (n / d) - atan c
unfoldable pub shift : Float → Float → Float → Float
shift c n d = (n ⊖ c ⊗ d) ⊘ (d ⊕ c ⊗ n)

-- atan c, as hi + lo, and the arc of w
unfoldable pub arc : Float → Float → Float → Float
arc hi lo w = hi ⊕ (w ⊖ (tail w ⊖ lo))

unfoldable pub small : Float → Float
small w = w ⊖ tail w

unfoldable pub ratio : Float → Float → Float
ratio n d =
    cond (lt n (k_eighth ⊗ d)) (small (n ⊘ d))
    (cond (lt n (k_three8 ⊗ d)) (arc k_at14 k_at14_lo (shift k_quarter n d))
    (cond (lt n (k_five8 ⊗ d)) (arc k_at12 k_at12_lo (shift k_half n d))
    (cond (lt n (k_seven8 ⊗ d)) (arc k_at34 k_at34_lo (shift k_three4 n d))
    (arc k_pi4 k_pi4_lo (shift one_f n d)))))

-- ---- the angle of (x, y)
unfoldable pub flat : Float → Float → Float
flat r x = cond (lt x zero_f) (k_pi ⊖ (r ⊖ k_pi_lo)) r

unfoldable pub steep : Float → Float → Float
steep r x = cond (lt x zero_f) (k_pi2 ⊕ (r ⊕ k_pi2_lo)) (k_pi2 ⊖ (r ⊖ k_pi2_lo))

unfoldable pub half_turn : Float → Float → Float → Float
half_turn b a x = cond (le b a) (flat (ratio b a) x) (steep (ratio a b) x)

unfoldable pub size_of : Float → Float
size_of x = cond (lt x zero_f) (neg x) x

unfoldable pub scaled : Float → Float → Float → Float
scaled a y x = cond (lt a k_tiny) (cond (lt y k_tiny) (half_turn (y ⊗ k_huge) (a ⊗ k_huge) x) (half_turn y a x)) (half_turn y a x)

unfoldable pub upper : Float → Float → Float
upper y x = scaled (size_of x) y x

-- x is below zero, or minus zero
unfoldable pub leftward : Float → Bool
leftward x = cond (eq x zero_f) (lt (one_f ⊘ x) zero_f) (lt x zero_f)

unfoldable pub on_axis : Float → Float → Float
on_axis y x = cond (leftward x) (cond (lt (one_f ⊘ y) zero_f) k_minus_pi k_pi) y

unfoldable pub atan2_of : Float → Float → Float
atan2_of y x = cond (eq y zero_f) (on_axis y x) (cond (lt y zero_f) (neg (upper (neg y) x)) (upper y x))

unfoldable pub acos_of : Float → Float
acos_of x = atan2_of (sqrt_of ((one_f ⊖ x) ⊗ (one_f ⊕ x))) x
