-- WHAT A PRINTED NUMBER SHOWS, in words that know nothing of how it is printed: "exact value rounded to nearest and halves to even, never a signed zero" (document 01,
-- "The text program"), with any count of decimals from one on; document 02's Q-7 has six, and three for readers limited to them. Definitions only.
use Rattle.std.specs.Prelude.{◌≡◌, Bool, not, ◌&&◌, ◌⊎◌, ℕ, ◌+◌, ◌*◌, ◌%◌, ◌^◌, ◌≤◌, ℤ, eqb, length}
use Rattle.std.specs.Float.Ieee.{up, down}
use Rattle.lists.specs.Members.{All}
use Rattle.wkt.specs.Numeral.{Numeral, upper, Digit}

-- q is a / b rounded to a whole number: at most a half away from it, and where it is a half away, even
pub record Rounds (a b q : ℕ) : Type 0 where
  pub not_above : 2 * (q * b) ≤ 2 * a + b
  pub not_below : 2 * a ≤ 2 * (q * b) + b
  pub half_even : (2 * (q * b) ≡ 2 * a + b) ⊎ (2 * a ≡ 2 * (q * b) + b) → q % 2 ≡ 0

-- the numeral n shows a float of the sign s and the size m * up e / down e with `places` decimals. Its own value is upper n / 10 ^ places. It has a minus
-- where the float has one and a digit is not 0
pub record Shows (places : ℕ) (s : Bool) (m : ℕ) (e : ℤ) (n : Numeral) : Type 0 where
  pub digits_before : All Digit n.whole
  pub digits_after : All Digit n.part
  pub some_before : 1 ≤ length n.whole
  pub decimals : length n.part ≡ places
  pub rounded : Rounds (m * up e * 10 ^ places) (down e) (upper n)
  pub minus_is : n.minus ≡ (s && not (eqb (upper n) 0))
