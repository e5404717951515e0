-- The words of the text, as bytes: OGC 06-103r4, Well-Known Text, in the spacing of document 01.
-- Definitions only.
use Rattle.std.specs.Prelude.{ℕ, Bool, true, false, List, [], ◌∷◌}
use Prim.Native.Char.{code}
use Prim.Native.String as S

-- the bytes of a text in ASCII
abbrev pub bytes : S.String → List ℕ
bytes S.[] = []
bytes (S.◌∷◌ c s) = code c ∷ bytes s

-- the byte that tells how the text goes on
abbrev pub minus_byte : ℕ
minus_byte = code "-"

-- a minus, or nothing
abbrev pub minus_if : Bool → List ℕ
minus_if true = minus_byte ∷ []
minus_if false = []

abbrev pub point_byte : ℕ
point_byte = code "."

abbrev pub comma_byte : ℕ
comma_byte = code ","

abbrev pub space : List ℕ
space = bytes " "

abbrev pub comma : List ℕ
comma = bytes ", "

-- before and after the numbers of a post
abbrev pub post_word : List ℕ
post_word = bytes "POINT M ("

abbrev pub post_end : List ℕ
post_end = bytes ")\n"

-- before and after the points of a ring
abbrev pub ring_word : List ℕ
ring_word = bytes "POLYGON (("

abbrev pub ring_end : List ℕ
ring_end = bytes "))\n"

-- a polygon that has no points
abbrev pub empty_line : List ℕ
empty_line = bytes "POLYGON EMPTY\n"

-- printed only: a refusal
abbrev pub refused_word : List ℕ
refused_word = bytes "REFUSED "
