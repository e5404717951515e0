-- What a text is answered with, and what the lent slices hold at the end. Document 01: "Text is checked first (9), then 64 and 512 (answered
-- as 2)"; "Closing points are not stored or counted". A refusal leaves every lent cell zero, and so is what lies behind the points and lengths.
-- Definitions only.
use Rattle.std.specs.Prelude.{◌≡◌, ℕ, ◌+◌, Bool, cond, ◌&&◌, List, [], ◌∷◌, ◌++◌, length, take, nat_le, Float, Result, Ok, Err}
use Rattle.num.specs.Ops.{zero_f}
use Rattle.lists.specs.Parts.{padded}
use Rattle.wkt.specs.Limits.{whole_digits, part_digits, max_polygons, max_points}
use Rattle.wkt.specs.Parse.{Parse, got, wrong}
use Rattle.wkt.specs.Rules.{rules}
use Rattle.wkt.specs.Grammar.{Point, point, Text, scene, post, text_of}
use Rattle.wkt.specs.declared.Input.{Input}
use Rattle.refusal.specs.declared.Refusal.{Refusal}
use Rattle.refusal.specs.declared.Refusal.TheVariants.{TooMany, NotAsLaidOut}

-- x, y of each point
abbrev pub coords : List Point → List Float
coords [] = []
coords (point x y ∷ ps) = x ∷ y ∷ coords ps

-- the coordinates of all rings, one ring after the other; the rings' lengths; how many points they have together
abbrev pub all_coords : List (List Point) → List Float
all_coords [] = []
all_coords (ps ∷ rs) = coords ps ++ all_coords rs

abbrev pub lengths : List (List Point) → List ℕ
lengths [] = []
lengths (ps ∷ rs) = length ps ∷ lengths rs

abbrev pub total : List (List Point) → ℕ
total [] = 0
total (ps ∷ rs) = length ps + total rs

-- at most 64 polygons and 512 points, closing ones not counted
abbrev pub fitting : List (List Point) → Bool
fitting rs = nat_le (length rs) max_polygons && nat_le (total rs) max_points

-- the answer to a text that is read: the post, its range, and how many polygons and points
abbrev pub input_at : Float → Float → Float → ℕ → ℕ → Result Input Refusal
input_at x y m n k = Ok (record { x = x; y = y; range = m; polygons = n; points = k })

-- 9 where the text is not as laid out, then 2 where it has more than fits, else the post and the counts
abbrev pub input_of : Parse Text → Result Input Refusal
input_of (got (scene (post x y m) rs) t) = cond (fitting rs) (input_at x y m (length rs) (total rs)) (Err TooMany)
input_of wrong = Err NotAsLaidOut

-- the rings of a text that is not refused
abbrev pub rings_of : Parse Text → List (List Point)
rings_of (got (scene h rs) t) = cond (fitting rs) rs []
rings_of wrong = []

-- what n cells hold of a list: as much as there is room for, and then z
abbrev pub held : {A : Type 0} → A → ℕ → List A → List A
held z n xs = padded z n (take n xs)

-- ---- the promise of `read_input` for the text t: the answer r, and the lent slices, with the lengths p and l, at the end
abbrev pub text_in : List ℕ → Parse Text
text_in t = text_of (rules whole_digits part_digits) t

pub record Says (t : List ℕ) (p l : ℕ) (r : Result Input Refusal) (pts : List Float) (lens : List ℕ) : Type 0 where
  pub answer : r ≡ input_of (text_in t)
  pub points : pts ≡ held zero_f p (all_coords (rings_of (text_in t)))
  pub lengths_in : lens ≡ held 0 l (lengths (rings_of (text_in t)))
