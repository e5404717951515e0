-- What the answers of the inner functions say in the terms of the grammar: a cursor stands for the text that is left from it on.
-- Definitions only.
use Rattle.std.specs.Prelude.{◌≡◌, ℕ, ◌+◌, ◌-◌, ◌*◌, ◌^◌, ◌<◌, ◌≤◌, true, false, cond, ◌&&◌, Option, Some, None, Result, Ok, Err, List, [], ◌∷◌, length, drop, nat_le, Float}
use Rattle.std.proofs.lemmas.List.Edits.{sets}
use Rattle.wkt.specs.Limits.{max_polygons, max_points}
use Rattle.wkt.specs.Parse.{Parse, got, wrong, begins, is_digit}
use Rattle.wkt.specs.Rules.{capital_of}
use Rattle.wkt.specs.Number.{Digits, digits}
use Rattle.wkt.specs.Grammar.{Point, point, Text, scene, post}
use Rattle.wkt.specs.Grammar as G'
use Rattle.wkt.specs.Answer.{coords, all_coords, lengths, total, input_at}
use Rattle.wkt.specs.declared.Run.{Run}
use Rattle.wkt.specs.declared.Number.{Number}
use Rattle.wkt.specs.declared.Pair.{Pair}
use Rattle.wkt.specs.declared.Ring.{Ring}
use Rattle.wkt.specs.declared.Lines.{Lines}
use Rattle.wkt.specs.declared.Post.{Post}
use Rattle.wkt.specs.declared.Input.{Input}
use Rattle.refusal.specs.declared.Refusal.{Refusal}
use Rattle.refusal.specs.declared.Refusal.TheVariants.{TooMany, NotAsLaidOut}

-- a word stands at the cursor, and the cursor behind it is handed back, inside the text; or it does not stand there
abbrev pub AfterWord : List ℕ → ℕ → List ℕ → Option ℕ → Type 0
AfterWord s at word (Some next) = (begins capital_of word (drop at s) ≡ true) × (next ≡ at + length word) × (next ≤ length s)
AfterWord s at word None = begins capital_of word (drop at s) ≡ false

-- the digit that the text starts with
abbrev pub head_digit : List ℕ → Option ℕ
head_digit [] = None
head_digit (b ∷ t) = cond (is_digit b) (Some (b - 48)) None

-- a cursor that was handed back stands further on, inside the text
abbrev pub On : List ℕ → ℕ → ℕ → Type 0
On s at next = (at < next) × (next ≤ length s)

abbrev pub run_seen : List ℕ → ℕ → Option Run → Parse Digits
run_seen s at (Some r) = got (digits r.value (r.next - at)) (drop r.next s)
run_seen s at None = wrong

-- .. by as many digits as the number has at most
abbrev pub RunOn : List ℕ → ℕ → ℕ → Option Run → Type 0
RunOn s at limit (Some r) = (at < r.next) × (r.next ≤ length s) × (r.next - at ≤ limit) × (r.value < 10 ^ (r.next - at))
RunOn s at limit None = Unit {0}

abbrev pub number_seen : List ℕ → Option Number → Parse Float
number_seen s (Some r) = got r.value (drop r.next s)
number_seen s None = wrong

abbrev pub NumberOn : List ℕ → ℕ → Option Number → Type 0
NumberOn s at (Some r) = On s at r.next
NumberOn s at None = Unit {0}

abbrev pub pair_seen : List ℕ → Option Pair → Parse Point
pair_seen s (Some r) = got (point r.x r.y) (drop r.next s)
pair_seen s None = wrong

abbrev pub PairOn : List ℕ → ℕ → Option Pair → Type 0
PairOn s at (Some r) = On s at r.next
PairOn s at None = Unit {0}

-- a ring's answer has the number of its points; the points themselves are in the lent slice
abbrev pub counted : Parse (List Point) → Parse ℕ
counted (got ps t) = got (length ps) t
counted wrong = wrong

abbrev pub ring_seen : List ℕ → Option Ring → Parse ℕ
ring_seen s (Some r) = got r.points (drop r.next s)
ring_seen s None = wrong

abbrev pub RingOn : List ℕ → ℕ → Option Ring → Type 0
RingOn s at (Some r) = (at + r.points ≤ r.next) × (r.next ≤ length s)
RingOn s at None = Unit {0}

-- where points were read, they are stored from the k-th on; what there is no room for is lost
abbrev pub StoredBy : Parse (List Point) → List Float → ℕ → List Float → Type 0
StoredBy (got ps t) l k r = r ≡ sets l (2 * k) (coords ps)
StoredBy wrong l k r = Unit {0}

abbrev pub LineOn : List ℕ → ℕ → Option Ring → Type 0
LineOn s at (Some r) = (at + r.points < r.next) × (r.next ≤ length s)
LineOn s at None = Unit {0}

-- the lines' answer has their number and that of their points
pub data Tally : Type 0 where
  tally : (polygons points : ℕ) → Tally

abbrev pub tallied : Parse (List (List Point)) → Parse Tally
tallied (got rs t) = got (tally (length rs) (total rs)) t
tallied wrong = wrong

abbrev pub lines_seen : Option Lines → Parse Tally
lines_seen (Some r) = got (tally r.polygons r.points) []
lines_seen None = wrong

abbrev pub StoredAll : Parse (List (List Point)) → List Float → List ℕ → List Float → List ℕ → Type 0
StoredAll (got rs t) pts lens pts' lens' = (pts' ≡ sets pts 0 (all_coords rs)) × (lens' ≡ sets lens 0 (lengths rs))
StoredAll wrong pts lens pts' lens' = Unit {0}

abbrev pub StoredText : Parse Text → List Float → List ℕ → List Float → List ℕ → Type 0
StoredText (got (scene h rs) t) pts lens pts' lens' = (pts' ≡ sets pts 0 (all_coords rs)) × (lens' ≡ sets lens 0 (lengths rs))
StoredText wrong pts lens pts' lens' = Unit {0}

abbrev pub post_seen : List ℕ → Option Post → Parse G'.Post
post_seen s (Some r) = got (post r.x r.y r.range) (drop r.next s)
post_seen s None = wrong

abbrev pub PostOn : List ℕ → Option Post → Type 0
PostOn s (Some r) = r.next ≤ length s
PostOn s None = Unit {0}

-- the answer to a post and lines
abbrev pub answer_of : Float → Float → Float → Option Lines → Result Input Refusal
answer_of x y m (Some r) = cond (nat_le r.polygons max_polygons && nat_le r.points max_points) (input_at x y m r.polygons r.points) (Err TooMany)
answer_of x y m None = Err NotAsLaidOut

-- how many polygons and points an answer counts
abbrev pub polygons_in : Result Input Refusal → ℕ
polygons_in (Ok a) = a.polygons
polygons_in (Err n) = 0

abbrev pub points_in : Result Input Refusal → ℕ
points_in (Ok a) = a.points
points_in (Err n) = 0
