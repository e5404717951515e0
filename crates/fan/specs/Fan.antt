-- What the scan of the candidates finds: how many there are, the front edges and the events in the order in which the Rust pushes them, and
-- whether the post stands on an edge. `visibility.rs`, lines 269 to 327. Below it what the room holds of that.
-- Document 01, "Outlines from a post" and "Refusal numbers": a list that is full is counted on without writing. Definitions only.
use Rattle.std.specs.Prelude.{ℕ, zero, suc, ◌+◌, ◌%◌, ◌≤◌, ◌<◌, ◌≡◌, Bool, false, ◌||◌, cond, Option, Some, None, option_to_list, List, [], ◌∷◌, ◌++◌, length, get_or, ltb, Float}
use Rattle.std.specs.Float.Ieee.{lt}
use Rattle.num.specs.Ops.{◌⊗◌}
use Rattle.lists.specs.Parts.{Only}
use Rattle.geom.specs.Box.{distance_sq_to_of}
use Rattle.grid.specs.Boxes.{box_at}
use Rattle.site.specs.Tables.{first_of, len_of, point_at}
use Rattle.cone.specs.declared.View.{View}
use Rattle.room.specs.declared.Rooms.{Rooms}
use Rattle.room.specs.declared.LocalEdge.{LocalEdge}
use Rattle.room.specs.declared.Event.{Event}
use Rattle.room.specs.Layout.{merged_f, edges_w, turns_w, Fit}
use Rattle.room.specs.Records.{edges_in, events_in}
use Rattle.fan.specs.declared.FrontEdge.{FrontEdge}
use Rattle.fan.specs.declared.Found.{Found}
use Rattle.fan.specs.declared.Tally.{Tally}
use Rattle.fan.specs.declared.Fan.{Fan}
use Rattle.fan.specs.Sides.{found_of}

-- ---- what is found
pub record Fanned : Type 0 where
  pub candidates : ℕ
  pub edges : List LocalEdge
  pub events : List Event
  pub touch : Bool

abbrev pub fanned : ℕ → List LocalEdge → List Event → Bool → Fanned
fanned n edges events touch = record { candidates = n; edges = edges; events = events; touch = touch }

abbrev pub nothing : Fanned
nothing = fanned 0 [] [] false

-- what is found first, and then what is found next
unfoldable pub both : Fanned → Fanned → Fanned
both f g = fanned (f.candidates + g.candidates) (f.edges ++ g.edges) (f.events ++ g.events) (f.touch || g.touch)

abbrev pub edge_fan : LocalEdge → Fanned
edge_fan e = fanned 0 (e ∷ []) [] false

abbrev pub event_fan : Event → Fanned
event_fan e = fanned 0 [] (e ∷ []) false

-- an end is an event where the view holds it
abbrev pub end_fan : Option Event → Fanned
end_fan e = fanned 0 [] (option_to_list e) false

abbrev pub touch_fan : Bool → Fanned
touch_fan touch = fanned 0 [] [] touch

-- of one polygon edge: the event of its start comes before that of its end
abbrev pub seen_fan : Option FrontEdge → Fanned
seen_fan (Some f) = both (edge_fan f.edge) (both (end_fan f.start) (end_fan f.stop))
seen_fan None = nothing

unfoldable pub side_fan : Found → Fanned
side_fan f = both (touch_fan f.touch) (seen_fan f.seen)

-- the edge i of the polygon whose points are the n from `first` on; the last edge closes the ring
unfoldable pub side_at : View → List Float → ℕ → ℕ → ℕ → Found
side_at v points first n i =
    let j = (i + 1) % n in
    found_of v (point_at points (first + i)) (point_at points (first + j)) (first + i) (first + j)

-- of its first m edges
unfoldable pub sides_fan : View → List Float → ℕ → ℕ → ℕ → Fanned
sides_fan v points first n zero = nothing
sides_fan v points first n (suc i) = both (sides_fan v points first n i) (side_fan (side_at v points first n i))

-- of one polygon: a candidate where its box is within range
unfoldable pub is_far : View → List Float → ℕ → Bool
is_far v boxes id = lt (v.r ⊗ v.r) (distance_sq_to_of (box_at boxes id) v.o)

unfoldable pub polygon_fan : View → List Float → List Float → List ℕ → ℕ → Fanned
polygon_fan v points boxes polygons id =
    cond (is_far v boxes id) nothing
    (both (fanned 1 [] [] false) (sides_fan v points (first_of polygons id) (len_of polygons id) (len_of polygons id)))

-- of the polygons that the box query lists, in its order
unfoldable pub fan_of : View → List Float → List Float → List ℕ → List ℕ → Fanned
fan_of v points boxes polygons [] = nothing
fan_of v points boxes polygons (id ∷ ids) = both (polygon_fan v points boxes polygons id) (fan_of v points boxes polygons ids)

-- ---- what the room holds of it
-- g was found between two moments: the counts rose by it, and as far as there is room the lists grew by it; nothing but the front edges' and the
-- events' own stretches was written
pub record Added (k : Rooms) (g : Fanned) (t : Tally) (f : List Float) (w : List ℕ) (t' : Tally) (f' : List Float) (w' : List ℕ) : Type 0 where
  pub candidates : t'.candidates ≡ t.candidates + g.candidates
  pub edges : t'.edges ≡ t.edges + length g.edges
  pub events : t'.events ≡ t.events + length g.events
  pub touch : t'.touch ≡ (t.touch || g.touch)
  pub edges_stand : t'.edges ≤ k.edges → edges_in k f' w' t'.edges ≡ edges_in k f w t.edges ++ g.edges
  pub events_stand : t'.events ≤ k.events → events_in k f' w' t'.events ≡ events_in k f w t.events ++ g.events
  pub floats_only : Only 0 (merged_f k) f f'
  pub words_only : Only (edges_w k) (turns_w k) w w'

-- before the scan
abbrev pub zero_tally : Tally
zero_tally = record { candidates = 0; edges = 0; events = 0; touch = false }

-- every count is below b: more can be added without passing a `usize`
pub record Below (b : ℕ) (t : Tally) : Type 0 where
  pub candidates : t.candidates < b
  pub edges : t.edges < b
  pub events : t.events < b

-- the points of a polygon are numbered below the limit, as they are in sound tables (`ready` of proofs/Scanning.antt)
abbrev pub Inside : ℕ → ℕ → Type 0
Inside first n = first + n ≤ 65536

-- what the scan asks: room enough, and n ids in front of the words, of polygons whose points are inside
pub record Ready (k : Rooms) (polygons : List ℕ) (n : ℕ) (f : List Float) (w : List ℕ) : Type 0 where
  pub fit : Fit k (length f) (length w)
  pub few : n ≤ k.ids
  pub inside : (m : ℕ) → m < n → Inside (first_of polygons (get_or w m 0)) (len_of polygons (get_or w m 0))

-- "a work list would pass its stated entries"
abbrev pub is_over : Rooms → ℕ → ℕ → Bool
is_over k edges events = ltb k.edges edges || ltb k.events events

-- what the scan leaves: the counts of the defined run, and unless a list is over, the lists themselves
pub record Scanned (k : Rooms) (g : Fanned) (r : Fan) (f : List Float) (w : List ℕ) (f' : List Float) (w' : List ℕ) : Type 0 where
  pub candidates : r.candidates ≡ g.candidates
  pub edges : r.edges ≡ length g.edges
  pub events : r.events ≡ length g.events
  pub touch : r.touch ≡ g.touch
  pub over : r.over ≡ is_over k (length g.edges) (length g.events)
  pub edges_stand : r.over ≡ false → edges_in k f' w' r.edges ≡ g.edges
  pub events_stand : r.over ≡ false → events_in k f' w' r.events ≡ g.events
  pub floats_only : Only 0 (merged_f k) f f'
  pub words_only : Only (edges_w k) (turns_w k) w w'
