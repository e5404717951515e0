-- SplitMix64 as `Rng` of scene.rs has it, lines 365 to 396. The published texts are Steele, Lea and Flood, "Fast splittable pseudorandom number generators"
-- (OOPSLA 2014), and Vigna's splitmix64.c (2015), which has the same three constants and the same three shifts.
-- A word is a number below 2 ^ 64. Its sums and products are taken modulo 2 ^ 64, `z >> k` is z / 2 ^ k, and `^` is the exclusive or of binary digits, `bit_xor`.
use Rattle.std.specs.Prelude.{ℕ, ◌+◌, ◌-◌, ◌*◌, ◌/◌, ◌%◌, ◌^◌, cond, pos, bit_xor, nat_le, Float}
use Rattle.std.specs.Float.{binary64}
use Rattle.std.specs.Float.Ieee.{mul, div, of_int, of_bits}
use Rattle.rng.specs.declared.Rng.{Rng}

-- a generator seeded with s: the seed is its state
abbrev pub new_of : ℕ → Rng
new_of s = record { 0 = s }

-- ---- one step

-- the state after a step
unfoldable pub stepped : ℕ → ℕ
stepped s = (s + 0x9e37_79b9_7f4a_7c15) % 2 ^ 64

-- z ^ (z >> k)
unfoldable pub folded : ℕ → ℕ → ℕ
folded k z = bit_xor z (z / 2 ^ k)

-- (z ^ (z >> k)) * c
unfoldable pub spread : ℕ → ℕ → ℕ → ℕ
unfolding folded
spread k c z = folded k z * c % 2 ^ 64

-- the word drawn at a state that was stepped to
unfoldable pub mixed : ℕ → ℕ
unfolding spread
mixed z = folded 31 (spread 27 0x94d0_49bb_1331_11eb (spread 30 0xbf58_476d_1ce4_e5b9 z))

-- the word of the next step
unfoldable pub word_of : Rng → ℕ
unfolding stepped mixed
word_of g = mixed (stepped g.0)

-- the generator after it
unfoldable pub after : Rng → Rng
unfolding stepped
after g = new_of (stepped g.0)

-- ---- the three draws: the generator left behind, and what was drawn

pub record Drawn (A : Type 0) : Type 0 where
  pub rng : Rng
  pub value : A

unfoldable pub next_u64_of : Rng → Drawn ℕ
unfolding after word_of
next_u64_of g = record { rng = after g; value = word_of g }

-- the Rust's 1.0 / (1u64 << 53) as f64: one conversion and one division
abbrev pub unit : Float
unit = div binary64 (of_bits binary64 0x3ff0_0000_0000_0000) (of_int binary64 (pos (2 ^ 53)))

-- a word's upper 53 bits, as a float, times the unit: one conversion and one multiplication
unfoldable pub fraction_of : ℕ → Float
unfolding mul div of_int of_bits
fraction_of z = mul binary64 (of_int binary64 (pos (z / 2 ^ 11))) unit

unfoldable pub next_f64_of : Rng → Drawn Float
unfolding after word_of fraction_of
next_f64_of g = record { rng = after g; value = fraction_of (word_of g) }

-- lo and the high 64 bits of the word times the span; nothing is drawn from a span that is empty or turned
unfoldable pub range_of : Rng → ℕ → ℕ → Drawn ℕ
unfolding after word_of
range_of g lo hi = cond (nat_le hi lo) (record { rng = g; value = lo }) (record { rng = after g; value = lo + word_of g * (hi - lo) / 2 ^ 64 })
