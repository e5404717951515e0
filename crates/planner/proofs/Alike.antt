-- TEXTS THAT ARE ANSWERED ALIKE. `answer_alike`: two texts that differ in the case of letters only have the same answer, byte for byte. `answer_before`: a text in
-- which no decimal point has 4 to 6 digits after it is answered as if at most three were taken, so with three places as it was before document 02's Q-7.
-- Assumes nothing.
use mathlib.Core.Path.{◌≡◌, ap}
use mathlib.Core.List.{List}
use Prim.Native.Nat.{ℕ}
use Rattle.wkt.specs.Limits.{whole_digits, part_digits, former_part_digits}
use Rattle.wkt.specs.Rules.{raised, rules}
use Rattle.wkt.specs.Numeral.{Unmoved}
use Rattle.wkt.specs.Grammar.{text_of}
use Rattle.wkt.proofs.Raised.{alike}
use Rattle.wkt.proofs.Decimals.{as_before}
use Rattle.planner.specs.Answer.{answer_to, answer_of}

pub answer_alike : (places : ℕ) (t u : List ℕ) → raised t ≡ raised u → answer_of places t ≡ answer_of places u
unfolding answer_of
answer_alike places t u e = ap (answer_to places) (alike t u e)

pub answer_before : (places : ℕ) (t : List ℕ) → Unmoved former_part_digits part_digits t → answer_to places (text_of (rules whole_digits former_part_digits) t) ≡ answer_of places t
unfolding answer_of
answer_before places t h = ap (answer_to places) (as_before t h)
