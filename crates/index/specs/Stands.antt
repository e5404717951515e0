-- How an index stands in the work room: bucket starts, and behind them the references, which are places of edges in the room
-- (`visibility.rs`, lines 520 to 529; the Rust moves the edges themselves into order of nearness, here they stay). Definitions only.
use Rattle.std.specs.Prelude.{◌≡◌, ℕ, suc, ◌+◌, ◌<◌, ◌≤◌, Bool, false, ◌||◌, List, map, length, nat_lt, slice_index, Float}
use Rattle.lists.specs.Lists.{listed}
use Rattle.lists.specs.Members.{AllBelow}
use Rattle.lists.specs.Parts.{part, Only}
use Rattle.geom.specs.declared.Vec2.{Vec2}
use Rattle.room.specs.declared.Rooms.{Rooms}
use Rattle.room.specs.Layout.{nearest_w, events_w, starts_w, refs_w, samples_w, Fit}
use Rattle.room.specs.Records.{edge_at, edges_in}
use Rattle.index.specs.declared.AngularIndex.{AngularIndex}
use Rattle.index.specs.declared.Indexed.{Indexed}
use Rattle.index.specs.declared.Best.{Best}
use Rattle.index.specs.Spans.{head_of}
use Rattle.index.specs.Angular.{Index, index_of, refs_of}
use Rattle.index.specs.Casting.{none_yet, bucket_at, walk_of, tested_of}

-- where the references of the bucket b start, in the words
abbrev pub refs_from : Rooms → List ℕ → ℕ → ℕ
refs_from k words b = refs_w k + slice_index words (starts_w k + b)

-- the references of the bucket b
abbrev pub refs_at : Rooms → List ℕ → ℕ → List ℕ
refs_at k words b = part (refs_from k words b) (refs_from k words (suc b)) words

-- the index that the room holds, for a head
unfoldable pub index_in : Rooms → List Float → List ℕ → AngularIndex → Index
unfolding edge_at
index_in k floats words x = record { head = x; buckets = listed (λ b. map (edge_at k floats words) (refs_at k words b)) x.buckets }

-- the walk of the bucket that an angle lies in: the best, and the places of the references of the edges tested
pub record WalkedAt (slack : Float) (k : Rooms) (x : AngularIndex) (floats : List Float) (words : List ℕ) (o : Vec2) (angle : Float) (dir : Vec2) (max : Float) (best : Best) (from to : ℕ) : Type 0 where
  pub best_is : best ≡ walk_of slack o dir x.mode (none_yet max) (bucket_at (index_in k floats words x) angle)
  pub tested_are : map (edge_at k floats words) (part from to words) ≡ tested_of slack o dir x.mode (none_yet max) (bucket_at (index_in k floats words x) angle)

-- its lists lie in their stretches of the words, and each reference names one of the edges that the room has
pub record Within (k : Rooms) (words : List ℕ) (x : AngularIndex) : Type 0 where
  pub some : 0 < x.buckets
  pub starts_in : x.buckets < k.starts
  pub refs_in : (b : ℕ) → b ≤ x.buckets → slice_index words (starts_w k + b) ≤ k.refs
  pub named : (b : ℕ) → b < x.buckets → AllBelow k.edges (refs_at k words b)

-- what the building asks: the room is as large as stated, and so many edges fit
pub record Ready (k : Rooms) (floats : List Float) (words : List ℕ) (n : ℕ) : Type 0 where
  pub fit : Fit k (length floats) (length words)
  pub held : n ≤ k.edges

-- whether the starts or the references pass their entries
abbrev pub over_of : Rooms → ℕ → ℕ → Bool
over_of k buckets refs = nat_lt k.starts (buckets + 1) || nat_lt k.refs refs

-- The building of the index of the n edges in the room, for casts in a mode. It writes the order of nearness, and the starts and the references, which stand where they fit
pub record Builds (mode : ℕ) (k : Rooms) (floats : List Float) (words : List ℕ) (n : ℕ) (total : Float) (r : Indexed) (words' : List ℕ) : Type 0 where
  pub head : r.index ≡ head_of mode n total
  pub refs : r.refs ≡ refs_of total (edges_in k floats words n)
  pub over : r.over ≡ over_of k r.index.buckets r.refs
  pub stands : r.over ≡ false → index_in k floats words' r.index ≡ index_of mode total (edges_in k floats words n)
  pub sound : r.over ≡ false → Within k words' r.index
  pub between : List ℕ
  pub ordered : Only (nearest_w k) (events_w k) words between
  pub filled : Only (starts_w k) (samples_w k) between words'
