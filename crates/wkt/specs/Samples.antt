-- Worked texts: document 01's sample line, letters in either case and EMPTY, a ring closed by -0.000000, one that is open, numbers that are and are not taken.
-- Assumes nothing.
use Rattle.std.specs.Prelude.{◌≡◌, [], ◌∷◌, ◌++◌, refl, Float}
use Rattle.std.specs.Float.Ieee.{of_bits, round, eq}
use Rattle.std.specs.Float.{binary64}
use Rattle.wkt.specs.Limits.{whole_digits, part_digits, former_part_digits}
use Rattle.wkt.specs.Words.{bytes}
use Rattle.wkt.specs.Parse.{got, wrong}
use Rattle.wkt.specs.Rules.{rules, former}
use Rattle.wkt.specs.Number.{number, unsigned, digits_of, nearest_to}
use Rattle.wkt.specs.Grammar.{point, scene, post, measure, post_line, pair, points, ring, ring_line, polygon, polygons, text_of}
use Rattle.wkt.specs.Answer.{text_in}

abbrev zero : Float
zero = of_bits binary64 0

abbrev one : Float
one = of_bits binary64 0x3ff0_0000_0000_0000

abbrev millionth : Float
millionth = of_bits binary64 0x3eb0_c6f7_a0b5_ed8d

abbrev tenth : Float
tenth = of_bits binary64 0x3fb9_9999_9999_999a

sample : text_in (bytes "POINT M (0 0 0.1)\n") ≡ got (scene (post zero zero tenth) []) []
unfolding number unsigned digits_of nearest_to measure post_line pair points ring ring_line polygon polygons text_of of_bits round
sample = refl

-- no text, no end of the line, two spaces, a post that is EMPTY
nothing : text_in [] ≡ wrong
unfolding number unsigned digits_of nearest_to measure post_line pair points ring ring_line polygon polygons text_of of_bits round
nothing = refl

endless : text_in (bytes "POINT M (0 0 0.1)") ≡ wrong
unfolding number unsigned digits_of nearest_to measure post_line pair points ring ring_line polygon polygons text_of of_bits round
endless = refl

wide : text_in (bytes "POINT M (0  0 0.1)\n") ≡ wrong
unfolding number unsigned digits_of nearest_to measure post_line pair points ring ring_line polygon polygons text_of of_bits round
wide = refl

empty : text_in (bytes "POINT M EMPTY\n") ≡ wrong
unfolding number unsigned digits_of nearest_to measure post_line pair points ring ring_line polygon polygons text_of of_bits round
empty = refl

-- letters in either case, and a polygon without points
pub mixed : text_in (bytes "Point m (0 0 0.1)\nPolygon Empty\nPOLYGON EMPTY\n") ≡ got (scene (post zero zero tenth) ([] ∷ [] ∷ [])) []
unfolding number unsigned digits_of nearest_to measure post_line pair points ring ring_line polygon polygons text_of of_bits round
mixed = refl

-- neither of which document 01's rules take
pub was : text_of (former whole_digits former_part_digits) (bytes "Point M (0 0 0.1)\n") ∷ text_of (former whole_digits former_part_digits) (bytes "POINT M (0 0 0.1)\nPOLYGON EMPTY\n") ∷ [] ≡ wrong ∷ wrong ∷ []
unfolding number unsigned digits_of nearest_to measure post_line pair points ring ring_line polygon polygons text_of of_bits round
was = refl

-- a space too many, before EMPTY or behind it, EMPTY in brackets, no end of the line
pub spaced : polygon (rules whole_digits part_digits) (bytes "POLYGON  EMPTY\n") ∷ polygon (rules whole_digits part_digits) (bytes "POLYGON EMPTY \n") ∷ polygon (rules whole_digits part_digits) (bytes "POLYGON (EMPTY)\n") ∷ polygon (rules whole_digits part_digits) (bytes "POLYGON EMPTY") ∷ [] ≡ wrong ∷ wrong ∷ wrong ∷ wrong ∷ []
unfolding number unsigned digits_of nearest_to pair points ring ring_line polygon of_bits round eq
spaced = refl

-- bytes that are one bit off: NUL for the space, H for a bracket, P with its highest bit
pub bit_off : polygon (rules whole_digits part_digits) (bytes "POLYGON" ++ (0 ∷ bytes "EMPTY\n")) ∷ polygon (rules whole_digits part_digits) (bytes "POLYGON HH0 0, 1 0, 1 1, 0 0))\n") ∷ polygon (rules whole_digits part_digits) (208 ∷ bytes "OLYGON EMPTY\n") ∷ [] ≡ wrong ∷ wrong ∷ wrong ∷ []
unfolding number unsigned digits_of nearest_to pair points ring ring_line polygon of_bits round eq
bit_off = refl

square : polygon (rules whole_digits part_digits) (bytes "POLYGON ((0 0, 1 0, 1 1, -0.000000 0))\n") ≡ got (point zero zero ∷ point one zero ∷ point one one ∷ []) []
unfolding number unsigned digits_of nearest_to pair points ring ring_line polygon of_bits round eq
square = refl

apart : polygon (rules whole_digits part_digits) (bytes "POLYGON ((0 0, 1 0, 1 1, 0.000001 0))\n") ≡ wrong
unfolding number unsigned digits_of nearest_to pair points ring ring_line polygon of_bits round eq
apart = refl

-- -12.5; -0 is plus zero; a plus sign, no digit after the point, none before it, eight digits, seven decimals
negative : number whole_digits part_digits (bytes "-12.5 x") ≡ got (of_bits binary64 0xc029_0000_0000_0000) (bytes " x")
unfolding number unsigned digits_of nearest_to of_bits round
negative = refl

unsigned_zero : number whole_digits part_digits (bytes "-0") ≡ got zero []
unfolding number unsigned digits_of nearest_to of_bits round
unsigned_zero = refl

not_taken : number whole_digits part_digits (bytes "+1") ∷ number whole_digits part_digits (bytes "1.") ∷ number whole_digits part_digits (bytes ".5") ∷ number whole_digits part_digits (bytes "12345678") ∷ number whole_digits part_digits (bytes "0.0000001") ∷ [] ≡ wrong ∷ wrong ∷ wrong ∷ wrong ∷ wrong ∷ []
unfolding number unsigned digits_of nearest_to of_bits round
not_taken = refl

-- six decimals: the float nearest to 0.000001; and four, of which document 01's rules take none
small : number whole_digits part_digits (bytes "0.000001") ≡ got millionth []
unfolding number unsigned digits_of nearest_to of_bits round
small = refl

four : number whole_digits part_digits (bytes "0.0001") ∷ number whole_digits former_part_digits (bytes "0.0001") ∷ [] ≡ got (of_bits binary64 0x3f1a_36e2_eb1c_432d) [] ∷ wrong ∷ []
unfolding number unsigned digits_of nearest_to of_bits round
four = refl

-- and in a text: six decimals, and seven
pub six : text_in (bytes "POINT M (0.000001 0 0.1)\n") ≡ got (scene (post millionth zero tenth) []) []
unfolding number unsigned digits_of nearest_to measure post_line pair points ring ring_line polygon polygons text_of of_bits round
six = refl

pub seven : text_in (bytes "POINT M (0.0000001 0 0.1)\n") ≡ wrong
unfolding number unsigned digits_of nearest_to measure post_line pair points ring ring_line polygon polygons text_of of_bits round
seven = refl
