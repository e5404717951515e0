-- What the passes of the building ask and do: noting each edge's buckets, counting by marks, summing, and putting in, from the farthest edge to the nearest
-- (`visibility.rs`, lines 539 to 559). The notes stand from `notes_w` on, the starts from `starts_w` on and the references from `refs_w` on.
-- Definitions only.
use Rattle.std.specs.Prelude.{◌≡◌, ℕ, suc, ◌+◌, ◌*◌, ◌/◌, ◌%◌, ◌<◌, ◌≤◌, min, max, Bool, false, cond, ◌&&◌, List, [], ◌++◌, length, take, drop, ◌==◌, nat_le, nat_lt, slice_index, Float}
use Rattle.lists.specs.Lists.{cons_if, sum_to, joined}
use Rattle.lists.specs.Parts.{part, Only}
use Rattle.tables.specs.Scatter.{State}
use Rattle.room.specs.declared.Rooms.{Rooms}
use Rattle.room.specs.Layout.{nearest_w, events_w, starts_w, refs_w, samples_w}
use Rattle.room.specs.Records.{edge_at}
use Rattle.index.specs.declared.AngularIndex.{AngularIndex}
use Rattle.index.specs.declared.Indexed.{Indexed}
use Rattle.index.specs.declared.Stretch.{Stretch}
use Rattle.index.specs.declared.Spans.{Spans}
use Rattle.index.specs.Spans.{spans_of, spans_by, stretch, both, covers, edge_bits, edge_refs}
use Rattle.index.specs.Angular.{in_bucket}
use Rattle.index.specs.Stands.{refs_at, Ready}

-- the buckets of the edge i of the room
unfoldable pub spans_at : Rooms → List Float → AngularIndex → Float → ℕ → Spans
unfolding edge_at spans_by
spans_at k floats x total i = spans_of x total (edge_at k floats [] i)

-- the first n of the order of nearness
abbrev pub order_in : Rooms → List ℕ → ℕ → List ℕ
order_in k words n = part (nearest_w k) (nearest_w k + n) words

-- the references of the bucket b, for an order of edges
abbrev pub refs_by : Rooms → List Float → AngularIndex → Float → List ℕ → ℕ → List ℕ
refs_by k floats x total order b = in_bucket (spans_at k floats x total) order b

-- how many there are in all
abbrev pub many_by : Rooms → List Float → AngularIndex → Float → List ℕ → ℕ
many_by k floats x total order = sum_to (λ b. length (refs_by k floats x total order b)) x.buckets

-- how often the first n edges, as they stand, are in the bucket b
abbrev pub count_to : Rooms → List Float → AngularIndex → Float → ℕ → ℕ → ℕ
count_to k floats x total n b = sum_to (λ i. edge_bits (spans_at k floats x total i) b) n

-- and how many references they have
abbrev pub refs_to : Rooms → List Float → AngularIndex → Float → ℕ → ℕ
refs_to k floats x total n = sum_to (λ i. edge_refs (spans_at k floats x total i)) n

-- ---- an edge's buckets, noted
-- where the notes stand: behind the order of nearness, in the scratch of its sort
abbrev pub notes_w : Rooms → ℕ
notes_w k = nearest_w k + k.edges

-- the buckets that the note p says: from its first to its last
abbrev pub said_of : ℕ → Spans
said_of p = both (stretch (p / 65536) (p % 65536 + 1)) (stretch 0 0)

-- and those of an edge that has the buckets s: 65,535 says nothing
abbrev pub said_by : ℕ → Spans → Spans
said_by p s = cond (p == 65535) s (said_of p)

-- the edge of the note p may have a bucket from lo up to hi
abbrev pub meets_of : ℕ → ℕ → ℕ → Bool
meets_of p lo hi = nat_lt p (65536 * hi) && nat_le lo (p % 65536)

-- each of the first n of the order of nearness has its note
abbrev pub Noted : Rooms → List Float → AngularIndex → Float → ℕ → List ℕ → Type 0
Noted k floats x total n words = (r : ℕ) → r < n
    → said_by (slice_index words (notes_w k + r)) (spans_at k floats x total (slice_index words (nearest_w k + r))) ≡ spans_at k floats x total (slice_index words (nearest_w k + r))

-- the noting: a bucket's number fits half a word
pub record Notable (k : Rooms) (floats : List Float) (x : AngularIndex) (n : ℕ) (words : List ℕ) : Type 0 where
  pub ready : Ready k floats words n
  pub some : 0 < x.buckets
  pub few : x.buckets ≤ 65536

pub record Notes (k : Rooms) (floats : List Float) (x : AngularIndex) (total : Float) (n : ℕ) (words words' : List ℕ) : Type 0 where
  pub only : Only (notes_w k) (events_w k) words words'
  pub noted : Noted k floats x total n words'

-- the part of a stretch from lo up to hi, and of both stretches of an edge
abbrev pub cut_of : ℕ → ℕ → Stretch → Stretch
cut_of lo hi s = stretch (max lo s.from) (min s.to hi)

abbrev pub cut_both : ℕ → ℕ → Spans → Spans
cut_both lo hi s = both (cut_of lo hi s.first) (cut_of lo hi s.second)

-- ---- one edge
-- what the marks at the places up to b come to, as a `u32` wraps
abbrev pub tally_of : List ℕ → ℕ → ℕ
tally_of l b = sum_to (λ j. slice_index l j) (suc b) % 4294967296

-- they come to so many more at each place, and nothing past `end` was written
pub record Marked (more : ℕ → ℕ) (end : ℕ) (l l' : List ℕ) : Type 0 where
  pub tallies : (b : ℕ) → tally_of l' b ≡ (tally_of l b + more b) % 4294967296
  pub rest : (m : ℕ) → end < m → drop m l' ≡ drop m l

-- its buckets lie in the starts, which stand in front of the references, and each of their blocks has room
pub record PutRoom (refs : ℕ) (s : Spans) (w : List ℕ) : Type 0 where
  pub inside : refs ≤ length w
  pub first_fits : s.first.to ≤ refs
  pub second_fits : s.second.to ≤ refs
  pub above : (b : ℕ) → edge_bits s b ≤ slice_index (take refs w) b
  pub below : (b : ℕ) → 0 < edge_bits s b → slice_index (take refs w) b ≤ length (drop refs w)

-- the edge was put into its blocks, in front of what they hold, and their starts went down
pub record PutBoth (refs : ℕ) (s : Spans) (id : ℕ) (w w' : List ℕ) : Type 0 where
  pub down : (b : ℕ) → slice_index (take refs w') b + edge_bits s b ≡ slice_index (take refs w) b
  pub held : (h : ℕ → ℕ) (F : ℕ → List ℕ) (m : ℕ) (rest : List ℕ) → m ≤ refs → State h F m rest (take refs w) (drop refs w)
      → ((b : ℕ) → 0 < edge_bits s b → (b < m) × (length (F b) + edge_bits s b ≤ h b))
      → State h (λ b. cons_if (covers s.first b) id (cons_if (covers s.second b) id (F b))) m rest (take refs w') (drop refs w')

-- ---- all edges
-- the counting
pub record Counting (k : Rooms) (floats : List Float) (x : AngularIndex) (total : Float) (n : ℕ) (words : List ℕ) : Type 0 where
  pub ready : Ready k floats words n
  pub some : 0 < x.buckets
  pub starts_fit : x.buckets < k.starts
  pub noted : Noted k floats x total n words

pub record Counted (k : Rooms) (floats : List Float) (x : AngularIndex) (total : Float) (n : ℕ) (words words' : List ℕ) : Type 0 where
  pub only : Only (starts_w k) (refs_w k) words words'
  pub tallies : (b : ℕ) → tally_of (drop (starts_w k) words') b ≡ (tally_of (drop (starts_w k) words) b + length (refs_by k floats x total (order_in k words n) b)) % 4294967296

-- the ends of the blocks: the counts summed up
pub record Endable (k : Rooms) (floats : List Float) (x : AngularIndex) (total : Float) (n : ℕ) (words : List ℕ) : Type 0 where
  pub ready : Ready k floats words n
  pub some : 0 < x.buckets
  pub starts_fit : x.buckets < k.starts
  pub noted : Noted k floats x total n words
  pub small : many_by k floats x total (order_in k words n) ≤ 4294967295

pub record Ended (k : Rooms) (floats : List Float) (x : AngularIndex) (total : Float) (n : ℕ) (words : List ℕ) (refs : ℕ) (words' : List ℕ) : Type 0 where
  pub only : Only (starts_w k) (refs_w k) words words'
  pub ends : (b : ℕ) → b ≤ x.buckets → slice_index (drop (starts_w k) words') b ≡ sum_to (λ j. length (refs_by k floats x total (order_in k words n) j)) (suc b)
  pub refs_are : refs ≡ many_by k floats x total (order_in k words n)

-- the putting in: the starts are at the blocks' ends. What the references were does not matter
pub record Putting (k : Rooms) (floats : List Float) (x : AngularIndex) (total : Float) (n : ℕ) (words : List ℕ) : Type 0 where
  pub ready : Ready k floats words n
  pub some : 0 < x.buckets
  pub few : x.buckets ≤ 65536
  pub starts_fit : x.buckets < k.starts
  pub noted : Noted k floats x total n words
  pub refs_fit : many_by k floats x total (order_in k words n) ≤ k.refs
  pub ends : (b : ℕ) → b < x.buckets → slice_index (drop (starts_w k) words) b ≡ sum_to (λ j. length (refs_by k floats x total (order_in k words n) j)) (suc b)

pub record Placed (k : Rooms) (floats : List Float) (x : AngularIndex) (total : Float) (n : ℕ) (words words' : List ℕ) : Type 0 where
  pub front : take (starts_w k) words' ≡ take (starts_w k) words
  pub starts : (b : ℕ) → b < k.starts → slice_index (drop (starts_w k) words') b + length (refs_by k floats x total (order_in k words n) b) ≡ slice_index (drop (starts_w k) words) b
  pub refs : drop (refs_w k) words' ≡ joined (refs_by k floats x total (order_in k words n)) x.buckets ++ drop (refs_w k + many_by k floats x total (order_in k words n)) words

-- ---- the starts and the references
pub record Fillable (k : Rooms) (floats : List Float) (x : AngularIndex) (total : Float) (n : ℕ) (words : List ℕ) : Type 0 where
  pub notable : Notable k floats x n words
  pub starts_fit : x.buckets < k.starts
  pub small : many_by k floats x total (order_in k words n) ≤ 4294967295

-- they stand in the room
pub record Held (k : Rooms) (floats : List Float) (x : AngularIndex) (total : Float) (n : ℕ) (words words' : List ℕ) : Type 0 where
  pub starts : (b : ℕ) → b ≤ x.buckets → slice_index words' (starts_w k + b) ≤ k.refs
  pub blocks : (b : ℕ) → b < x.buckets → refs_at k words' b ≡ refs_by k floats x total (order_in k words n) b

-- the notes are written first
pub record Filled (k : Rooms) (floats : List Float) (x : AngularIndex) (total : Float) (n : ℕ) (words : List ℕ) (r : Indexed) (words' : List ℕ) : Type 0 where
  pub index : r.index ≡ x
  pub refs : r.refs ≡ many_by k floats x total (order_in k words n)
  pub over : r.over ≡ nat_lt k.refs r.refs
  pub between : List ℕ
  pub noted : Only (notes_w k) (events_w k) words between
  pub only : Only (starts_w k) (samples_w k) between words'
  pub stands : r.over ≡ false → Held k floats x total n words words'
