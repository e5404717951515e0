-- Bounds of a float by whole numbers, as exact values: `up e / down e` is 2 ^ e as a fraction (the kit's `lib.Ieee`). Definitions only.
use Rattle.std.specs.Prelude.{ℕ, ◌+◌, ◌*◌, ◌≤◌, true, false, T, Float}
use Rattle.std.specs.Float.{nan, inf, fin}
use Rattle.std.specs.Float.Ieee.{up, down}

-- x is finite, and from -b to b
abbrev pub Within : ℕ → Float → Type 0
Within b nan = ⊥
Within b (inf s) = ⊥
Within b (fin s m e) = m * up e ≤ b * down e

-- x is NaN, or finite and from -b to b
abbrev pub WithinOrNan : ℕ → Float → Type 0
WithinOrNan b nan = T true
WithinOrNan b (inf s) = ⊥
WithinOrNan b (fin s m e) = m * up e ≤ b * down e

-- x is n or more, an infinity included (and a minus zero is 0)
abbrev pub AtLeast : ℕ → Float → Type 0
AtLeast n nan = ⊥
AtLeast n (inf true) = ⊥
AtLeast n (inf false) = T true
AtLeast n (fin true m e) = n * down e + m * up e ≤ 0
AtLeast n (fin false m e) = n * down e ≤ m * up e
