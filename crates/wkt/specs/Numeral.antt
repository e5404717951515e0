-- A number as it is written at the front of a text, whatever reads it. Document 01, "The text program": "optional minus, 1 to 7 digits, optionally a point and
-- 1 to 3 digits", and to 6 by document 02's Q-7; the two counts are w and f here. Definitions only.
use Rattle.std.specs.Prelude.{◌≡◌, ℕ, ◌+◌, ◌*◌, ◌^◌, ◌<◌, ◌≤◌, Bool, true, false, ◌⊎◌, List, [], ◌∷◌, ◌++◌, length}
use Rattle.lists.specs.Members.{All}
use Rattle.wkt.specs.Words.{minus_if, point_byte}
use Rattle.wkt.specs.Parse.{starts, is_digit, run, value_of}

-- is there a minus, which digits stand before the point, and which after it: none where there is no point
pub record Numeral : Type 0 where
  pub minus : Bool
  pub whole : List ℕ
  pub part : List ℕ

-- ---- its bytes
abbrev pub point_of : List ℕ → List ℕ
point_of [] = []
point_of (d ∷ ds) = point_byte ∷ d ∷ ds

abbrev pub bytes_of : Numeral → List ℕ
bytes_of n = minus_if n.minus ++ (n.whole ++ point_of n.part)

-- ---- its value, without the sign: upper / lower. With k digits after the point it is whole + part / 10 ^ k
abbrev pub lower : Numeral → ℕ
lower n = 10 ^ length n.part

abbrev pub upper : Numeral → ℕ
upper n = value_of 0 n.whole * lower n + value_of 0 n.part

abbrev pub Digit : ℕ → Type 0
Digit b = is_digit b ≡ true

-- ---- the text t is the numeral n and then `rest`, which goes on with no digit, and with no point where n has none: so n is all that stands there
pub record Stands (w f : ℕ) (n : Numeral) (t rest : List ℕ) : Type 0 where
  pub text : t ≡ bytes_of n ++ rest
  pub digits_before : All Digit n.whole
  pub digits_after : All Digit n.part
  pub some_before : 1 ≤ length n.whole
  pub few_before : length n.whole ≤ w
  pub few_after : length n.part ≤ f
  pub no_digit : run rest ≡ []
  pub no_point : n.part ≡ [] → starts point_byte rest ≡ false

-- ---- no decimal point of the text has more than f and at most g digits after it
abbrev pub Unmoved : ℕ → ℕ → List ℕ → Type 0
Unmoved f g [] = Unit {0}
Unmoved f g (b ∷ t) = (b ≡ point_byte → (length (run t) ≤ f) ⊎ (g < length (run t))) × Unmoved f g t
