-- The lines that the program prints (document 01, "The text program"; OGC 06-103r4): a closed POLYGON, POLYGON EMPTY for no points, REFUSED n.
-- Definitions only.
use Rattle.std.specs.Prelude.{List, [], ◌∷◌, ◌++◌, ℕ, Float}
use Rattle.wkt.specs.Words.{space, comma, ring_word, ring_end, empty_line, refused_word}
use Rattle.wkt.specs.Grammar.{Point, point}
use Rattle.wkt_print.specs.Decimal.{whole_text, shown}

-- the points of a list x, y, x, y, ..; an x without a y is no point
abbrev pub points_of : List Float → List Point
points_of [] = []
points_of (x ∷ []) = []
points_of (x ∷ y ∷ l) = point x y ∷ points_of l

-- x y
abbrev pub point_text : ℕ → Point → List ℕ
point_text places (point x y) = shown places x ++ (space ++ shown places y)

-- each point, with a comma and a space after it
abbrev pub list_text : ℕ → List Point → List ℕ
list_text places [] = []
list_text places (p ∷ ps) = point_text places p ++ (comma ++ list_text places ps)

-- POLYGON ((x y, .., x y)): the points, and the first once more
abbrev pub polygon_text : ℕ → List Point → List ℕ
polygon_text places [] = empty_line
polygon_text places (p ∷ ps) = ring_word ++ (list_text places (p ∷ ps) ++ (point_text places p ++ ring_end))

-- REFUSED n
abbrev pub refused_text : ℕ → List ℕ
refused_text n = refused_word ++ (whole_text n ++ (10 ∷ []))
