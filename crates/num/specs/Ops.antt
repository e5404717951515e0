-- The four operations of binary64 as the contracts of every crate write them: one rounding each, to nearest, ties to even (IEEE 754-2019, 5.4.1).
-- Definitions only.
use Rattle.std.specs.Prelude.{from_bits, Float}
use Rattle.std.specs.Float.{binary64}
use Rattle.std.specs.Float.Ieee.{add, sub, mul, div}

infixl 20 ◌⊕◌
abbrev pub ◌⊕◌ : Float → Float → Float
x ⊕ y = add binary64 x y

infixl 20 ◌⊖◌
abbrev pub ◌⊖◌ : Float → Float → Float
x ⊖ y = sub binary64 x y

infixl 30 ◌⊗◌
abbrev pub ◌⊗◌ : Float → Float → Float
x ⊗ y = mul binary64 x y

infixl 30 ◌⊘◌
abbrev pub ◌⊘◌ : Float → Float → Float
x ⊘ y = div binary64 x y

-- ---- the constants that more than one crate names, by their bit patterns
abbrev pub zero_f : Float
zero_f = from_bits binary64 0x0000_0000_0000_0000

abbrev pub one_f : Float
one_f = from_bits binary64 0x3ff0_0000_0000_0000
