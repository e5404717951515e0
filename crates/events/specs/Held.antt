-- What the room holds of the events: the unmerged ones in order, the merged ones with their corners; and what merging promises.
-- Definitions only.
use Rattle.std.specs.Prelude.{◌≡◌, false, ◌||◌, Option, Some, None, List, ◌++◌, ℕ, zero, suc, ◌+◌, ◌≤◌, ◌<◌, ltb, Float, length, get_or, drop}
use Rattle.lists.specs.Lists.{listed}
use Rattle.lists.specs.Parts.{part, Only}
use Rattle.room.specs.declared.Rooms.{Rooms}
use Rattle.room.specs.declared.Event.{Event}
use Rattle.room.specs.Layout.{merged_f, samples_f, turns_w, merged_w, corners_w, starts_w, Fit}
use Rattle.room.specs.Records.{event_at, merged_at}
use Rattle.events.specs.Spots.{Spot, closed, gather, gathered, spots_of, aside_count, kept_of}
use Rattle.events.specs.declared.Open.{Open}
use Rattle.events.specs.declared.Merging.{Merging}

-- ---- reading
-- the t-th event in order of angle
abbrev pub turn_at : Rooms → List Float → List ℕ → ℕ → Event
turn_at k floats words t = event_at k floats words (get_or words (turns_w k + t) 0)

-- how many corners the merged events before i have
abbrev pub end_at : Rooms → List Float → List ℕ → ℕ → ℕ
end_at k floats words zero = 0
end_at k floats words (suc i) = (merged_at k floats words i).end

-- the merged event i, with its corners
unfoldable pub spot_at : Rooms → List Float → List ℕ → ℕ → Spot
spot_at k floats words i = record {
  angle = (merged_at k floats words i).angle;
  vertex = (merged_at k floats words i).vertex;
  side = (merged_at k floats words i).side;
  extras = part (corners_w k + end_at k floats words i) (corners_w k + end_at k floats words (suc i)) words;
}

-- the first n merged events
abbrev pub spots_in : Rooms → List Float → List ℕ → ℕ → List Spot
spots_in k floats words n = listed (spot_at k floats words) n

-- ---- the event that is open
abbrev pub spot_now : Rooms → List ℕ → Open → Spot
spot_now k words g = record {
  angle = g.angle;
  vertex = g.vertex;
  side = g.side;
  extras = part (corners_w k + g.first) (corners_w k + g.corners) words;
}

abbrev pub open_of : Event → ℕ → ℕ → Open
open_of e corners spots = record { angle = e.angle; vertex = e.vertex; side = e.side; first = corners; corners = corners; spots = spots }

-- with e merged into it, and so many corners now
abbrev pub join_of : Open → Event → ℕ → Open
join_of g e corners = record {
  angle = g.angle;
  vertex = kept_of g.vertex e.vertex;
  side = g.side || e.side;
  first = g.first;
  corners = corners;
  spots = g.spots;
}

-- the room holds what was merged before the open event, and its corners so far
pub record Stands (k : Rooms) (floats : List Float) (words : List ℕ) (g : Open) : Type 0 where
  pub within : g.first ≤ g.corners
  pub room : g.corners ≤ k.corners
  pub ends : (i : ℕ) → i ≤ g.spots → end_at k floats words i ≤ g.first
  pub last : end_at k floats words g.spots ≡ g.first

-- it can be closed
pub record Closing (k : Rooms) (floats : List Float) (words : List ℕ) (g : Open) : Type 0 where
  pub fit : Fit k (length floats) (length words)
  pub free : g.spots < k.events
  pub stands : Stands k floats words g

-- only what merging writes was written
pub record Frame (k : Rooms) (f : List Float) (w : List ℕ) (f' : List Float) (w' : List ℕ) : Type 0 where
  pub floats : Only (merged_f k) (samples_f k) f f'
  pub words : Only (merged_w k) (starts_w k) w w'

-- it is closed
pub record Closed (k : Rooms) (g : Open) (floats : List Float) (words : List ℕ) (floats' : List Float) (words' : List ℕ) : Type 0 where
  pub spot : spot_at k floats' words' g.spots ≡ closed (spot_now k words g)
  pub before : (i : ℕ) → i < g.spots → spot_at k floats' words' i ≡ spot_at k floats words i
  pub ends : (i : ℕ) → i ≤ g.spots → end_at k floats' words' i ≡ end_at k floats words i
  pub last : end_at k floats' words' (suc g.spots) ≡ g.corners
  pub frame : Frame k floats words floats' words'

-- ---- the run over the events in order
-- t of them are taken: those that are closed, and what the open one and the rest come to, are all
pub record Gathered (k : Rooms) (all : List Event) (floats : List Float) (words : List ℕ) (g : Open) (t : ℕ) : Type 0 where
  pub stands : Stands k floats words g
  pub some : g.spots < t
  pub sum : aside_count (spots_in k floats words g.spots) ≡ g.first
  pub whole : spots_in k floats words g.spots ++ gather (spot_now k words g) (drop t all) ≡ gathered all

-- m events stand in order, in the room
pub record Turns (k : Rooms) (m : ℕ) (floats : List Float) (words : List ℕ) : Type 0 where
  pub fit : Fit k (length floats) (length words)
  pub some : 0 < m
  pub most : m ≤ k.events
  pub below : (t : ℕ) → t < m → get_or words (turns_w k + t) 0 < k.events

-- what the run ends with: an open event and none to come, or more corners than there is room for
abbrev pub Ends : Rooms → List Event → List Float → List ℕ → Option Open → Type 0
Ends k all floats words (Some g) = Gathered k all floats words g (length all)
Ends k all floats words None = k.corners < aside_count (gathered all)

-- the first n merged events have their corners in the corners' own stretch
abbrev pub EndsBelow : Rooms → List Float → List ℕ → ℕ → Type 0
EndsBelow k floats words n = (i : ℕ) → i ≤ n → end_at k floats words i ≤ k.corners

-- what merging the events in order ends with
pub record Done (k : Rooms) (all : List Event) (floats : List Float) (words : List ℕ) (r : Merging) : Type 0 where
  pub over_is : r.over ≡ ltb k.corners (aside_count (gathered all))
  pub unmerged_is : r.unmerged ≡ length all
  pub events_are : r.over ≡ false → r.events ≡ length (gathered all)
  pub corners_are : r.over ≡ false → r.corners ≡ aside_count (gathered all)
  pub spots_are : r.over ≡ false → spots_in k floats words r.events ≡ gathered all
  pub ends_are : r.over ≡ false → EndsBelow k floats words r.events

-- ---- WHAT MERGING PROMISES of the unmerged events es: over exactly where they or the corners kept aside pass their entries; otherwise the
-- counts are the lists' lengths, and the merged events stand in the room
pub record Merges (k : Rooms) (es : List Event) (floats : List Float) (words : List ℕ) (r : Merging) : Type 0 where
  pub over_is : r.over ≡ ltb k.events (length es) || ltb k.corners (aside_count (spots_of es))
  pub unmerged_is : r.unmerged ≡ length es
  pub events_are : r.over ≡ false → r.events ≡ length (spots_of es)
  pub corners_are : r.over ≡ false → r.corners ≡ aside_count (spots_of es)
  pub spots_are : r.over ≡ false → spots_in k floats words r.events ≡ spots_of es
  pub ends_are : r.over ≡ false → EndsBelow k floats words r.events
