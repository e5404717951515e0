-- Where each list of an outline's work stands in the two lent slices, by the entries that the caller states.
-- Document 01, "Refusal numbers": "An entry takes a fixed count of numbers, at most 16, written in docs/, and the room needed is the sum of these
-- products." An id takes 1 word; an edge 7 floats and 3 words; an event 2 floats and 7 words; a kept-aside corner 2 words; a bucket start 1;
-- an angular reference 1; a sample 4 floats and 6 words; a corner seen 1 word; an owner nothing, since the owners are only counted.
-- Definitions only.
use Rattle.std.specs.Prelude.{Bool, ◌||◌, ℕ, ◌+◌, ◌*◌, ◌≤◌, ◌<◌, ltb}
use Rattle.room.specs.declared.Rooms.{Rooms}

-- ---- the floats. The edges' nearest distances stand from 0 on, one for each
-- an edge's own numbers, six for each: the ends and the span
abbrev pub edges_f : Rooms → ℕ
edges_f k = k.edges

-- the events' angles
abbrev pub events_f : Rooms → ℕ
events_f k = 7 * k.edges

-- the merged events' angles
abbrev pub merged_f : Rooms → ℕ
merged_f k = events_f k + k.events

-- the samples' angles
abbrev pub samples_f : Rooms → ℕ
samples_f k = merged_f k + k.events

-- the samples' distances
abbrev pub distances_f : Rooms → ℕ
distances_f k = samples_f k + k.samples

-- the samples' directions, two for each
abbrev pub dirs_f : Rooms → ℕ
dirs_f k = distances_f k + k.samples

-- all of them
abbrev pub floats_for : Rooms → ℕ
floats_for k = dirs_f k + 2 * k.samples

-- ---- the words. The ids stand from 0 on
-- the edges' numbers in the site
abbrev pub edges_w : Rooms → ℕ
edges_w k = k.ids

-- the edges in order of nearness, and as much scratch behind
abbrev pub nearest_w : Rooms → ℕ
nearest_w k = edges_w k + k.edges

-- the events' vertices and sides, two for each
abbrev pub events_w : Rooms → ℕ
events_w k = nearest_w k + 2 * k.edges

-- the events in order of angle, and as much scratch behind
abbrev pub turns_w : Rooms → ℕ
turns_w k = events_w k + 2 * k.events

-- the merged events' vertices, sides and ends, three for each
abbrev pub merged_w : Rooms → ℕ
merged_w k = turns_w k + 2 * k.events

-- the kept-aside corners, and as much scratch behind
abbrev pub corners_w : Rooms → ℕ
corners_w k = merged_w k + 3 * k.events

-- where the buckets start
abbrev pub starts_w : Rooms → ℕ
starts_w k = corners_w k + 2 * k.corners

-- the angular references
abbrev pub refs_w : Rooms → ℕ
refs_w k = starts_w k + k.starts

-- the samples' events, offsets, tags and edges, four for each
abbrev pub samples_w : Rooms → ℕ
samples_w k = refs_w k + k.refs

-- the samples in order of angle, and as much scratch behind
abbrev pub order_w : Rooms → ℕ
order_w k = samples_w k + 4 * k.samples

-- the corners seen at one event
abbrev pub seen_w : Rooms → ℕ
seen_w k = order_w k + 2 * k.samples

-- all of them
abbrev pub words_for : Rooms → ℕ
words_for k = seen_w k + k.seen

-- ---- so many floats and words are room enough
pub record Fit (k : Rooms) (floats words : ℕ) : Type 0 where
  pub floats_fit : floats_for k ≤ floats
  pub words_fit : words_for k ≤ words

-- or they are too few: part of refusal 8
abbrev pub is_short : Rooms → ℕ → ℕ → Bool
is_short k floats words = ltb floats (floats_for k) || ltb words (words_for k)

-- what writing the entry i of a list of n asks
pub record Place (k : Rooms) (floats words n i : ℕ) : Type 0 where
  pub fit : Fit k floats words
  pub below : i < n
