-- The text of document 01, "The text program", and of document 02, Q-2 and Q-7, after OGC 06-103r4's Well-Known Text: a POINT M and POLYGONs, each on its line.
-- The rules say how many digits a number has, what letters count as, and whether a polygon may be EMPTY (specs/Rules.antt). Definitions only.
use Rattle.std.specs.Prelude.{ℕ, zero, suc, ◌-◌, ◌<◌, Bool, true, false, cond, ◌&&◌, List, [], ◌∷◌, length, take, drop, nat_le, Float}
use Rattle.std.specs.Float.Ieee.{eq}
use Rattle.lists.specs.Members.{All}
use Rattle.wkt.specs.Limits.{least_ring, max_bytes}
use Rattle.wkt.specs.Words.{comma_byte, space, comma, post_word, post_end, ring_word, ring_end, empty_line}
use Rattle.wkt.specs.Parse.{Parse, got, wrong, and_then, join, starts, begins, only_if, word}
use Rattle.wkt.specs.Rules.{Rules}
use Rattle.wkt.specs.Number.{number}

pub data Point : Type 0 where
  point : (x y : Float) → Point

-- ---- x y
unfoldable pub pair : Rules → List ℕ → Parse Point
unfolding number
pair how t = and_then (number how.whole how.part t) (λ x a. word how.letter space a (λ b. and_then (number how.whole how.part b) (λ y c. got (point x y) c)))

-- ---- x y, x y, ..: at most n of them, where n is the length of the text, so that it is never short
-- the point p, and after a comma those that k reads
abbrev pub after : Rules → Bool → Point → List ℕ → (List ℕ → Parse (List Point)) → Parse (List Point)
after how true p t k = join p (word how.letter comma t k)
after how false p t k = got (p ∷ []) t

unfoldable pub points : Rules → ℕ → List ℕ → Parse (List Point)
unfolding pair
points how zero t = wrong
points how (suc n) t = and_then (pair how t) (λ p a. after how (starts comma_byte a) p a (points how n))

-- ---- a ring: at least four points, the last equal to the first as floats are. That one closes the ring and is not kept
abbrev pub same : Point → Point → Bool
same (point a b) (point c d) = eq a c && eq b d

abbrev pub last_of : Point → List Point → Point
last_of p [] = p
last_of p (q ∷ ps) = last_of q ps

abbrev pub closed : List Point → Bool
closed [] = false
closed (p ∷ ps) = same (last_of p ps) p

abbrev pub opened : List Point → List Point
opened ps = take (length ps - 1) ps

abbrev pub closing : List Point → List ℕ → Parse (List Point)
closing ps t = only_if (nat_le least_ring (length ps) && closed ps) (λ a. got (opened ps) a) t

unfoldable pub ring : Rules → List ℕ → Parse (List Point)
unfolding points
ring how t = and_then (points how (length t) t) closing

-- ---- POLYGON ((x y, x y, ..))
abbrev pub ended : Rules → List Point → List ℕ → Parse (List Point)
ended how ps t = word how.letter ring_end t (λ a. got ps a)

unfoldable pub ring_line : Rules → List ℕ → Parse (List Point)
unfolding ring
ring_line how t = word how.letter ring_word t (λ a. and_then (ring how a) (ended how))

-- ---- POLYGON EMPTY, which has no points, where the rules take it; else a ring's line
unfoldable pub polygon : Rules → List ℕ → Parse (List Point)
unfolding ring_line
polygon how t = cond (how.empty && begins how.letter empty_line t) (got [] (drop (length empty_line) t)) (ring_line how t)

-- ---- POINT M (x y m)
pub data Post : Type 0 where
  post : (x y range : Float) → Post

abbrev pub measured : Rules → Float → List ℕ → Parse Float
measured how m t = word how.letter post_end t (λ a. got m a)

unfoldable pub measure : Rules → List ℕ → Parse Float
unfolding number
measure how t = word how.letter space t (λ a. and_then (number how.whole how.part a) (measured how))

abbrev pub ranged : Rules → Point → List ℕ → Parse Post
ranged how (point x y) t = and_then (measure how t) (λ m a. got (post x y m) a)

unfoldable pub post_line : Rules → List ℕ → Parse Post
unfolding pair measure
post_line how t = word how.letter post_word t (λ a. and_then (pair how a) (ranged how))

-- ---- the whole text
pub data Text : Type 0 where
  scene : (at : Post) (rings : List (List Point)) → Text

-- nothing at the end of the text, and before it what k reads
abbrev pub until_end : {A : Type 0} → List ℕ → (List ℕ → Parse (List A)) → Parse (List A)
until_end [] k = got [] []
until_end (b ∷ t) k = k (b ∷ t)

-- the lines that are left, up to the end of the text: at most n, where n is the length of the text, so that it is never short
unfoldable pub polygons : Rules → ℕ → List ℕ → Parse (List (List Point))
unfolding polygon
polygons how zero t = until_end t (λ _. wrong)
polygons how (suc n) t = until_end t (λ a. and_then (polygon how a) (λ ps b. join ps (polygons how n b)))

abbrev pub posted : Rules → Post → List ℕ → Parse Text
posted how h t = and_then (polygons how (length t) t) (λ rs a. got (scene h rs) a)

-- at most 16,384 bytes: a line for the post, and the lines of the polygons
unfoldable pub text_of : Rules → List ℕ → Parse Text
unfolding polygons post_line
text_of how t = only_if (nat_le (length t) max_bytes) (λ a. and_then (post_line how a) (posted how)) t

-- no polygon of it is empty, where the text was read
abbrev pub NoneEmpty : Parse Text → Type 0
NoneEmpty (got (scene h rs) t) = All (λ ps. 0 < length ps) rs
NoneEmpty wrong = Unit {0}
