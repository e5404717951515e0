-- A number of the text: an optional minus, 1 to w digits, optionally a point and 1 to f digits (document 01, "The text program").
-- Its value is the float nearest to the decimal: `round` is IEEE 754's rounding to nearest, and proofs/Nearest.antt says what that is.
-- Definitions only.
use Rattle.std.specs.Prelude.{ℕ, ◌+◌, ◌*◌, ◌^◌, Bool, true, false, cond, not, ◌&&◌, List, length, drop, ◌==◌, nat_le, Float}
use Rattle.std.specs.Float.{binary64}
use Rattle.std.specs.Float.Ieee.{round}
use Rattle.wkt.specs.Words.{minus_byte, point_byte}
use Rattle.wkt.specs.Parse.{Parse, got, wrong, and_then, starts, run, past, value_of}

-- digits read: the number they write, and how many they are
pub data Digits : Type 0 where
  digits : (value count : ℕ) → Digits

-- 1 to limit digits, all that stand there
unfoldable pub digits_of : ℕ → List ℕ → Parse Digits
digits_of limit t = cond (nat_le 1 (length (run t)) && nat_le (length (run t)) limit) (got (digits (value_of 0 (run t)) (length (run t))) (past t)) wrong

-- the float nearest to a / b, negative where s is true. Zero has no sign: minus zero is loaded as plus zero
unfoldable pub nearest_to : Bool → ℕ → ℕ → Float
unfolding round
nearest_to s a b = round binary64 (s && not (a == 0)) a b

-- the float of the decimal that has the number n before its point and, after it, the number v in k digits: n + v / 10 ^ k
abbrev pub decimal : Bool → ℕ → ℕ → ℕ → Float
decimal s n v k = nearest_to s (n * 10 ^ k + v) (10 ^ k)

abbrev pub with_part : Bool → ℕ → Digits → List ℕ → Parse Float
with_part s n (digits v k) t = got (decimal s n v k) t

-- what follows the digits of n: a point and 1 to f digits, where a point stands there
abbrev pub after_whole : Bool → ℕ → Bool → ℕ → List ℕ → Parse Float
after_whole true f s n t = and_then (digits_of f (drop 1 t)) (with_part s n)
after_whole false f s n t = got (decimal s n 0 0) t

abbrev pub with_whole : ℕ → Bool → Digits → List ℕ → Parse Float
with_whole f s (digits n k) t = after_whole (starts point_byte t) f s n t

unfoldable pub unsigned : ℕ → ℕ → Bool → List ℕ → Parse Float
unfolding digits_of
unsigned w f s t = and_then (digits_of w t) (with_whole f s)

unfoldable pub number : ℕ → ℕ → List ℕ → Parse Float
unfolding unsigned
number w f t = unsigned w f (starts minus_byte t) (cond (starts minus_byte t) (drop 1 t) t)
