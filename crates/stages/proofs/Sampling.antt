-- The samples of the merged events: read from the room they are those of the list that stands there, and each names an event of it. Assumes nothing.
use mathlib.Core.Path.{◌≡◌, sym, ap, ◌∙◌}
use mathlib.Core.Bool.{Bool, true, false, cond}
use mathlib.Core.List.{List, [], ◌∷◌, ◌++◌, map}
use Prim.Native.Nat.{ℕ, ◌<◌}
use lib.Ieee.{Float}
use Rattle.lists.specs.Lists.{cons_if}
use Rattle.lists.specs.Members.{All}
use Rattle.lists.proofs.Joined.{joined_ext, all_joined, length_listed, get_d_listed}
use Rattle.lists.proofs.Members.{all_append}
use Rattle.sorts.specs.By.{in_order}
use Rattle.sorts.specs.Sort.{sort}
use Rattle.sorts.proofs.Stable.{all_sort}
use Rattle.cone.specs.declared.View.{View}
use Rattle.room.specs.declared.Rooms.{Rooms}
use Rattle.room.specs.declared.Sample.{Sample}
use Rattle.events.specs.Held.{spot_at, spots_in}
use Rattle.index.specs.Angular.{Index}
use Rattle.rays.specs.Samples.{Turn, sample_of, aim_of, ray_of, rays_of, samples_of, earlier, ordered_of, hit_of, cast_ray, rays_cast}
use Rattle.rays.specs.Stands.{turn_at}
use Rattle.stages.specs.Drawing.{no_spot, turns_of, samples_for}

-- ---- as the list has them
module _ (k : Rooms) (f : List Float) (w : List ℕ) (n : ℕ) where
  turn_is : (i : ℕ) → i < n → turn_at k f w i ≡ turns_of (spots_in k f w n) i
  unfolding turn_at turns_of spot_at
  turn_is i h = rw (get_d_listed (spot_at k f w) n i no_spot h)

  pub samples_are : (v : View) → samples_of v (turn_at k f w) n ≡ samples_for v (spots_in k f w n)
  unfolding samples_of
  samples_are v =
      joined_ext (λ i. rays_of v i (turn_at k f w i)) (λ i. rays_of v i (turns_of (spots_in k f w n) i)) n (λ i h. ap (rays_of v i) (turn_is i h))
      ∙ ap (samples_of v (turns_of (spots_in k f w n))) (sym (length_listed (spot_at k f w) n))

-- ---- each names an event
module _ (n : ℕ) where
  abbrev pub Names : Sample → Type 0
  Names s = s.event < n

  one_ray : (t : Bool) (s : Sample) → Names s → All Names (cons_if t s [])
  one_ray true s h = (h, tt)
  one_ray false s h = tt

  module _ (v : View) (i : ℕ) (h : i < n) where
    ray_names : (angle : Float) (offset : ℕ) → All Names (ray_of v i angle offset)
    unfolding ray_of
    ray_names angle offset = one_ray (aim_of v angle offset).kept (sample_of (aim_of v angle offset).angle i offset) h

    either : (t : Bool) (l : List Sample) → All Names l → All Names (cond t l [])
    either true l a = a
    either false l a = tt

    rays_name : (t : Turn) → All Names (rays_of v i t)
    unfolding rays_of
    rays_name t =
        all_append Names (ray_of v i t.angle 0) (cond t.side (ray_of v i t.angle 1) [] ++ ray_of v i t.angle 2) (ray_names t.angle 0)
        (all_append Names (cond t.side (ray_of v i t.angle 1) []) (ray_of v i t.angle 2) (either t.side (ray_of v i t.angle 1) (ray_names t.angle 1)) (ray_names t.angle 2))

  samples_name : (v : View) (turns : ℕ → Turn) → All Names (samples_of v turns n)
  unfolding samples_of
  samples_name v turns = all_joined Names (λ i. rays_of v i (turns i)) n (λ i h. rays_name v i h (turns i))

  ordered_by : (t : Bool) (l : List Sample) → All Names l → All Names (cond t l (sort earlier l))
  ordered_by true l a = a
  ordered_by false l a = all_sort earlier Names l a

  ordered_name : (l : List Sample) → All Names l → All Names (ordered_of l)
  unfolding ordered_of
  ordered_name l a = ordered_by (in_order (map (λ s. s.angle) l)) l a

  cast_name : (v : View) (x : Index) (l : List Sample) → All Names l → All Names (map (cast_ray v x) l)
  unfolding hit_of
  cast_name v x [] a = tt
  cast_name v x (s ∷ l) a = (a.0, cast_name v x l a.1)

  pub cast_names : (v : View) (x : Index) (turns : ℕ → Turn) → All Names (rays_cast v x (samples_of v turns n))
  unfolding rays_cast hit_of
  cast_names v x turns = cast_name v x (ordered_of (samples_of v turns n)) (ordered_name (samples_of v turns n) (samples_name v turns))
