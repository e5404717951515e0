-- HOW A TEXT MAY BE WRITTEN. Document 01 takes words in upper case, and no EMPTY (`former`). Document 02, Q-2 takes letters in either case, and POLYGON EMPTY
-- (`rules`): it is what is read by. Q-7 raises the digits after a point from 3 to 6 (specs/Limits.antt). The grammar is one, for all rules. Definitions only.
use Rattle.std.specs.Prelude.{◌≡◌, ℕ, ◌-◌, ◌≤◌, Bool, true, false, cond, ◌&&◌, List, map, nat_le}

pub record Rules : Type 0 where
  -- the digits of a number, at most: before its point, and after it
  pub whole : ℕ
  pub part : ℕ
  -- what a byte of the text counts as, in a word
  pub letter : ℕ → ℕ
  -- whether POLYGON EMPTY is a polygon
  pub empty : Bool

-- a small letter, a to z, as its capital; any other byte as it is. A is 65, a is 97, z is 122
abbrev pub capital_of : ℕ → ℕ
capital_of b = cond (nat_le 97 b && nat_le b 122) (b - 32) b

-- a text with its letters raised
abbrev pub raised : List ℕ → List ℕ
raised t = map capital_of t

abbrev pub rules : ℕ → ℕ → Rules
rules w f = record { whole = w; part = f; letter = capital_of; empty = true }

abbrev pub former : ℕ → ℕ → Rules
former w f = record { whole = w; part = f; letter = λ b. b; empty = false }

-- the rules r' take every number and every word that r takes. A word has no small letter: each byte c of it is its own capital
pub record Reads (r r' : Rules) : Type 0 where
  pub whole : r.whole ≡ r'.whole
  pub part : r.part ≤ r'.part
  pub letter : (b c : ℕ) → capital_of c ≡ c → r.letter b ≡ c → r'.letter b ≡ c

-- and EMPTY, if r does
pub record Wider (r r' : Rules) : Type 0 where
  pub words : Reads r r'
  pub empty : r.empty ≡ true → r'.empty ≡ true
