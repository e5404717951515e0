-- The words of a line and of an answer. They follow the format that crates/replay/src/main.rt states. Definitions only.
use Rattle.std.specs.Prelude.{Bool, true, false, ◌&&◌, List, ℕ, zero, suc, ◌+◌, ◌-◌, ◌%◌, eqb, leb, ltb, get_or}

-- a word as a number of 32 bits
abbrev pub narrowed : ℕ → ℕ
narrowed w = w % 4294967296

-- one more where the test holds
abbrev pub more_if : Bool → ℕ → ℕ
more_if true n = n + 1
more_if false n = n

-- how many words there are after one more, where `room` is the most
abbrev pub after_push : ℕ → ℕ → ℕ
after_push room n = more_if (ltb n room) n

-- k words of one list from a + i on are those of the other from i on
abbrev pub alike : List ℕ → List ℕ → ℕ → ℕ → ℕ → Bool
alike s t a i zero = true
alike s t a i (suc k) = eqb (get_or s (a + i) 0) (get_or t i 0) && alike s t a (i + 1) k

-- the last r of the first n words are the first r of the other list, and r is not 0
abbrev pub same_tail : List ℕ → ℕ → List ℕ → ℕ → Bool
same_tail s n t r = ltb 0 r && (leb r n && alike s t (n - r) 0 r)
