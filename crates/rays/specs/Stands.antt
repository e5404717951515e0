-- How the samples stand in the work room, and what each pass over them asks and does. Definitions only.
use Rattle.std.specs.Prelude.{◌≡◌, false, List, ◌++◌, map, ℕ, ◌+◌, ◌^◌, ◌≤◌, ◌<◌, length, get_or, ltb, Float}
use Rattle.num.specs.Ops.{◌⊕◌}
use Rattle.lists.specs.Lists.{listed}
use Rattle.lists.specs.Parts.{Only, Stored}
use Rattle.geom.specs.Vec.{from_angle_of}
use Rattle.cone.specs.declared.View.{View}
use Rattle.room.specs.declared.Rooms.{Rooms}
use Rattle.room.specs.declared.Sample.{Sample}
use Rattle.room.specs.Layout.{samples_f, distances_f, floats_for, samples_w, order_w, seen_w, Fit}
use Rattle.room.specs.Records.{tie_of, ray_at, merged_at, sample_at, samples_in, dir_at, tie_at, Noted}
use Rattle.index.specs.declared.AngularIndex.{AngularIndex}
use Rattle.index.specs.Stands.{index_in, Within}
use Rattle.rays.specs.declared.Rays.{Rays}
use Rattle.rays.specs.Samples.{Turn, samples_of, hit_of, tied_on, Lone, cast_ray, rays_cast}

-- the merged event i
unfoldable pub turn_at : Rooms → List Float → List ℕ → ℕ → Turn
unfolding merged_at
turn_at k floats words i = record { angle = (merged_at k floats words i).angle; side = (merged_at k floats words i).side }

-- the samples in order of angle
abbrev pub rays_in : Rooms → List Float → List ℕ → ℕ → List Sample
rays_in k floats words n = listed (ray_at k floats words) n

-- ---- a list that is counted on once it is full
-- n samples so far, which are l. They stand in the room as long as it has entries for them
pub record Held (k : Rooms) (f : List Float) (w : List ℕ) (n : ℕ) (l : List Sample) : Type 0 where
  pub count : n ≡ length l
  pub list : n ≤ k.samples → samples_in k f w n ≡ l

-- there is room for all stated entries, and the count is far from its end
pub record Roomy (k : Rooms) (f : List Float) (w : List ℕ) (n : ℕ) : Type 0 where
  pub fit : Fit k (length f) (length w)
  pub small : n < 2 ^ 40

-- the samples xs came behind the n, from f and w to f' and w'
pub record Emits (k : Rooms) (xs : List Sample) (n r : ℕ) (f : List Float) (w : List ℕ) (f' : List Float) (w' : List ℕ) : Type 0 where
  pub count : r ≡ n + length xs
  pub held : (l : List Sample) → Held k f w n l → Held k f' w' r (l ++ xs)
  pub floats : Only (samples_f k) (floats_for k) f f'
  pub words : Only (samples_w k) (order_w k) w w'

-- what sampling the events asks
pub record Eventful (k : Rooms) (f : List Float) (w : List ℕ) (events : ℕ) : Type 0 where
  pub fit : Fit k (length f) (length w)
  pub held : events ≤ k.events

-- ---- casting the sample i: its answer, its direction and whether it was tied are in the room then, and the other samples' are as they were
pub record Answer (k : Rooms) (view : View) (x : AngularIndex) (i : ℕ) (f : List Float) (w : List ℕ) (f' : List Float) (w' : List ℕ) : Type 0 where
  pub hit : Stored (sample_at k f w) (sample_at k f' w') k.samples i (cast_ray view (index_in k f w x) (sample_at k f w i))
  pub dir : Stored (dir_at k f) (dir_at k f') k.samples i (from_angle_of (view.start ⊕ (sample_at k f w i).angle))
  pub tie : Stored (tie_at k w) (tie_at k w') k.samples i (tie_of (hit_of view (index_in k f w x) (sample_at k f w i).angle) (tied_on view (index_in k f w x) (sample_at k f w i).angle))
  pub floats : Only (distances_f k) (floats_for k) f f'
  pub words : Only (samples_w k) (order_w k) w w'

-- ---- casting the first n samples
pub record Castable (k : Rooms) (x : AngularIndex) (f : List Float) (w : List ℕ) (n : ℕ) : Type 0 where
  pub fit : Fit k (length f) (length w)
  pub held : n ≤ k.samples
  pub sound : Within k w x

pub record Casts (k : Rooms) (view : View) (x : AngularIndex) (n : ℕ) (f : List Float) (w : List ℕ) (f' : List Float) (w' : List ℕ) : Type 0 where
  pub list : samples_in k f' w' n ≡ map (cast_ray view (index_in k f w x)) (samples_in k f w n)
  pub dirs : (j : ℕ) → j < n → dir_at k f' j ≡ from_angle_of (view.start ⊕ (sample_at k f' w' j).angle)
  pub ties : (j : ℕ) → j < n → tie_at k w' j ≡ false → Lone view (index_in k f w x) (sample_at k f' w' j)
  pub floats : Only (distances_f k) (floats_for k) f f'
  pub words : Only (samples_w k) (order_w k) w w'

-- ---- all of it
pub record Sampling (k : Rooms) (x : AngularIndex) (f : List Float) (w : List ℕ) (events : ℕ) : Type 0 where
  pub fit : Fit k (length f) (length w)
  pub held : events ≤ k.events
  pub sound : Within k w x

-- The samples of the merged events in the room: counted, and, where they fit, in order of angle with their answers, their directions and their ties
pub record Sampled (k : Rooms) (view : View) (x : AngularIndex) (events : ℕ) (f : List Float) (w : List ℕ) (r : Rays) (f' : List Float) (w' : List ℕ) : Type 0 where
  pub samples : r.samples ≡ length (samples_of view (turn_at k f w) events)
  pub over : r.over ≡ ltb k.samples r.samples
  pub rays : r.over ≡ false → rays_in k f' w' r.samples ≡ rays_cast view (index_in k f w x) (samples_of view (turn_at k f w) events)
  pub below : r.over ≡ false → (t : ℕ) → t < r.samples → get_or w' (order_w k + t) 0 < k.samples
  pub noted : r.over ≡ false → Noted k view.start (Lone view (index_in k f w x)) f' w' r.samples
  pub floats : Only (samples_f k) (floats_for k) f f'
  pub words : Only (samples_w k) (seen_w k) w w'
