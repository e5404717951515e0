-- What stands in the room: the records of `visibility.rs` (`Event`, `Sample`, `LocalEdge`, lines 213 to 244), each read from its numbers, and
-- what a write of one does. A bool is 1 or 0. Document 01: "Each sample holds its angle, event, offset and that answer".
-- Definitions only.
use Rattle.std.specs.Prelude.{◌≡◌, Bool, false, cond, List, [], ◌∷◌, ℕ, ◌+◌, ◌*◌, ◌<◌, get_or, eqb, Float, None, Option, Some}
use Rattle.std.specs.Float.{nan}
use Rattle.num.specs.Ops.{◌⊕◌, zero_f}
use Rattle.lists.specs.Lists.{listed}
use Rattle.lists.specs.Parts.{Only, Stored}
use Rattle.geom.specs.declared.Vec2.{Vec2}
use Rattle.geom.specs.Vec.{vec, from_angle_of}
use Rattle.room.specs.declared.Rooms.{Rooms}
use Rattle.room.specs.declared.LocalEdge.{LocalEdge}
use Rattle.room.specs.declared.Event.{Event}
use Rattle.room.specs.declared.Merged.{Merged}
use Rattle.room.specs.declared.Sample.{Sample}
use Rattle.room.specs.Layout.{edges_f, events_f, merged_f, samples_f, distances_f, dirs_f, floats_for, edges_w, nearest_w, events_w, turns_w, merged_w, corners_w, samples_w, order_w}
use Rattle.site.specs.Hits.{hit_at}
use Rattle.site.specs.declared.RayHit.{RayHit}

-- ---- an answer of a cast as three numbers: 1, or 2 where it was tied, the distance and the edge, or zeros for a miss
abbrev pub tag_of : Option RayHit → Bool → ℕ
tag_of (Some h) tied = cond tied 2 1
tag_of None tied = 0

abbrev pub distance_of : Option RayHit → Float
distance_of (Some h) = h.t
distance_of None = zero_f

abbrev pub number_of : Option RayHit → ℕ
number_of (Some h) = h.edge
number_of None = 0

abbrev pub cast_from : ℕ → Float → ℕ → Option RayHit
cast_from tag t e = cond (eqb tag 0) None (hit_at t e)

-- the tie that is noted: a miss has none
abbrev pub tie_of : Option RayHit → Bool → Bool
tie_of (Some h) tied = tied
tie_of None tied = false

-- ---- the records
-- an edge's own numbers, in their order
abbrev pub six_of : LocalEdge → List Float
six_of e = e.a.x ∷ e.a.y ∷ e.b.x ∷ e.b.y ∷ e.span_start ∷ e.span_len ∷ []

-- the edge i
unfoldable pub edge_at : Rooms → List Float → List ℕ → ℕ → LocalEdge
edge_at k floats words i = record {
  a = vec (get_or floats (edges_f k + 6 * i) nan) (get_or floats (edges_f k + 6 * i + 1) nan);
  b = vec (get_or floats (edges_f k + 6 * i + 2) nan) (get_or floats (edges_f k + 6 * i + 3) nan);
  near = get_or floats i nan;
  edge = get_or words (edges_w k + i) 0;
  span_start = get_or floats (edges_f k + 6 * i + 4) nan;
  span_len = get_or floats (edges_f k + 6 * i + 5) nan;
}

-- the event i
unfoldable pub event_at : Rooms → List Float → List ℕ → ℕ → Event
event_at k floats words i = record {
  angle = get_or floats (events_f k + i) nan;
  vertex = get_or words (events_w k + 2 * i) 0;
  side = eqb (get_or words (events_w k + 2 * i + 1) 0) 1;
}

-- the merged event i
unfoldable pub merged_at : Rooms → List Float → List ℕ → ℕ → Merged
merged_at k floats words i = record {
  angle = get_or floats (merged_f k + i) nan;
  vertex = get_or words (merged_w k + 3 * i) 0;
  side = eqb (get_or words (merged_w k + 3 * i + 1) 0) 1;
  end = get_or words (merged_w k + 3 * i + 2) 0;
}

-- the sample i
unfoldable pub sample_at : Rooms → List Float → List ℕ → ℕ → Sample
sample_at k floats words i = record {
  angle = get_or floats (samples_f k + i) nan;
  event = get_or words (samples_w k + 4 * i) 0;
  offset = get_or words (samples_w k + 4 * i + 1) 0;
  hit = cast_from (get_or words (samples_w k + 4 * i + 2) 0) (get_or floats (distances_f k + i) nan) (get_or words (samples_w k + 4 * i + 3) 0);
}

-- whether the answer of the sample i was tied: a cast met a further edge at exactly the distance that it answered
unfoldable pub tie_at : Rooms → List ℕ → ℕ → Bool
tie_at k words i = eqb (get_or words (samples_w k + 4 * i + 2) 0) 2

-- the direction of the sample i
unfoldable pub dir_at : Rooms → List Float → ℕ → Vec2
dir_at k floats i = vec (get_or floats (dirs_f k + 2 * i) nan) (get_or floats (dirs_f k + 2 * i + 1) nan)

-- the sample t in order of angle
abbrev pub ray_at : Rooms → List Float → List ℕ → ℕ → Sample
ray_at k floats words t = sample_at k floats words (get_or words (order_w k + t) 0)

-- what stands in the room beside the n samples in order of angle: their directions, those of their angles, which are counted from `start`; and where no tie is
-- noted, something holds of the sample
abbrev pub Noted : Rooms → Float → (Sample → Type 0) → List Float → List ℕ → ℕ → Type 0
Noted k start Alone floats words n =
    (t : ℕ) → t < n
    → (dir_at k floats (get_or words (order_w k + t) 0) ≡ from_angle_of (start ⊕ (ray_at k floats words t).angle))
    × (tie_at k words (get_or words (order_w k + t) 0) ≡ false → Alone (ray_at k floats words t))

-- ---- the lists: the first n of each
abbrev pub edges_in : Rooms → List Float → List ℕ → ℕ → List LocalEdge
edges_in k floats words n = listed (edge_at k floats words) n

abbrev pub events_in : Rooms → List Float → List ℕ → ℕ → List Event
events_in k floats words n = listed (event_at k floats words) n

abbrev pub merged_in : Rooms → List Float → List ℕ → ℕ → List Merged
merged_in k floats words n = listed (merged_at k floats words) n

abbrev pub samples_in : Rooms → List Float → List ℕ → ℕ → List Sample
samples_in k floats words n = listed (sample_at k floats words) n

-- ---- a write: the entry i of n is x now, the others are as they were, and nothing but a stretch of each slice was written
pub record Put {A : Type 0} (before after : ℕ → A) (n i : ℕ) (x : A) (a b : ℕ) (f f' : List Float) (c d : ℕ) (w w' : List ℕ) : Type 0 where
  pub entry : Stored before after n i x
  pub floats : Only a b f f'
  pub words : Only c d w w'

-- from f and w to f' and w'
abbrev pub EdgePut : Rooms → ℕ → LocalEdge → List Float → List ℕ → List Float → List ℕ → Type 0
EdgePut k i e f w f' w' = Put (edge_at k f w) (edge_at k f' w') k.edges i e 0 (events_f k) f f' (edges_w k) (nearest_w k) w w'

abbrev pub EventPut : Rooms → ℕ → Event → List Float → List ℕ → List Float → List ℕ → Type 0
EventPut k i e f w f' w' = Put (event_at k f w) (event_at k f' w') k.events i e (events_f k) (merged_f k) f f' (events_w k) (turns_w k) w w'

abbrev pub MergedPut : Rooms → ℕ → Merged → List Float → List ℕ → List Float → List ℕ → Type 0
MergedPut k i e f w f' w' = Put (merged_at k f w) (merged_at k f' w') k.events i e (merged_f k) (samples_f k) f f' (merged_w k) (corners_w k) w w'

abbrev pub SamplePut : Rooms → ℕ → Sample → List Float → List ℕ → List Float → List ℕ → Type 0
SamplePut k i s f w f' w' = Put (sample_at k f w) (sample_at k f' w') k.samples i s (samples_f k) (dirs_f k) f f' (samples_w k) (order_w k) w w'

-- the sample with another answer: its angle, event and offset stay, and so does the stretch of the samples' angles
abbrev pub with_hit : Sample → Option RayHit → Sample
with_hit s h = record { angle = s.angle; event = s.event; offset = s.offset; hit = h }

pub record HitPut (k : Rooms) (i : ℕ) (h : Option RayHit) (tied : Bool) (f : List Float) (w : List ℕ) (f' : List Float) (w' : List ℕ) : Type 0 where
  pub put : Put (sample_at k f w) (sample_at k f' w') k.samples i (with_hit (sample_at k f w i) h) (distances_f k) (dirs_f k) f f' (samples_w k) (order_w k) w w'
  pub tie : Stored (tie_at k w) (tie_at k w') k.samples i (tie_of h tied)

-- a direction is of floats alone
pub record DirPut (k : Rooms) (i : ℕ) (d : Vec2) (f f' : List Float) : Type 0 where
  pub entry : Stored (dir_at k f) (dir_at k f') k.samples i d
  pub floats : Only (dirs_f k) (floats_for k) f f'
