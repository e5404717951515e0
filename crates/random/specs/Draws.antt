-- The polygons of a random site, as the Rust draws them (`Scene::random` of `scene.rs`, lines 171 to 196): for each polygon its count of points, its centre, its
-- base radius, then a fraction for each point, then a colour, which is dropped. One generator goes through all of it, so every draw counts. One rounding for
-- each operation, in the Rust's order. Definitions only.
use Rattle.std.specs.Prelude.{◌≡◌, ℕ, zero, suc, ◌≤◌, List, [], ◌∷◌, Float}
use Rattle.std.proofs.lemmas.List.Edits.{sets}
use Rattle.std.specs.Float.Ieee.{to_unsigned}
use Rattle.num.specs.Ops.{◌⊕◌, ◌⊗◌, ◌⊘◌}
use Rattle.lists.specs.Lists.{sum_to, joined, listed}
use Rattle.rng.specs.declared.Rng.{Rng}
use Rattle.rng.specs.Rng.{new_of, next_f64_of, range_of}
use Rattle.rng.specs.Rng as rng
use Rattle.geom.specs.declared.Vec2.{Vec2}
use Rattle.geom.specs.Constants.{half, tau}
use Rattle.geom.specs.Vec.{vec, from_angle_of, add_of, mul_of}
use Rattle.grid.specs.Range.{count_f}
use Rattle.random.specs.declared.SceneConfig.{SceneConfig}
use Rattle.random.specs.declared.Head.{Head}

-- ---- a polygon's head: 3 to 8 points, a centre at whole numbers in the site, a base radius of 5 to 59
-- `width as u64` cuts the fraction off. Where it leaves 0, `range` draws nothing
unfoldable pub head_of : SceneConfig → Rng → rng.Drawn Head
head_of config g =
    let a = range_of g 3 9 in
    let b = range_of a.rng 0 (to_unsigned 64 config.width) in
    let c = range_of b.rng 0 (to_unsigned 64 config.height) in
    let d = range_of c.rng 5 60 in
    record { rng = d.rng; value = record { count = a.value; center = vec (count_f b.value) (count_f c.value); radius = count_f d.value } }

-- ---- its points
-- the angle of the point i: `TAU * i as f64 / count as f64`
unfoldable pub angle_at : Head → ℕ → Float
angle_at h i = tau ⊗ count_f i ⊘ count_f h.count

-- the point i, by one draw: `center + Vec2::from_angle(angle) * (radius * (0.5 + rng.next_f64()))`
unfoldable pub corner_by : Head → ℕ → Rng → rng.Drawn Vec2
corner_by h i g =
    let f = next_f64_of g in
    record { rng = f.rng; value = add_of h.center (mul_of (from_angle_of (angle_at h i)) (h.radius ⊗ (half ⊕ f.value))) }

-- the generator before the point i, where g is the one after the head
unfoldable pub state_at : Head → Rng → ℕ → Rng
state_at h g zero = g
state_at h g (suc i) = (corner_by h i (state_at h g i)).rng

-- the point i
unfoldable pub corner_at : Head → Rng → ℕ → Vec2
corner_at h g i = (corner_by h i (state_at h g i)).value

-- the first n points, x and y by turns
unfoldable pub ring_of : Head → Rng → ℕ → List Float
ring_of h g n = joined (λ i. (corner_at h g i).x ∷ (corner_at h g i).y ∷ []) n

-- the generator after the polygon: a colour, one of ten, is drawn after its points
unfoldable pub after_of : Head → Rng → Rng
after_of h g = (range_of (state_at h g h.count) 0 10).rng

-- ---- all polygons
-- the generator before the polygon k
unfoldable pub state_of : SceneConfig → ℕ → Rng
state_of config zero = new_of config.seed
state_of config (suc k) = let d = head_of config (state_of config k) in after_of d.value d.rng

-- its head, the generator after that, and its count of points
unfoldable pub head_at : SceneConfig → ℕ → Head
head_at config k = (head_of config (state_of config k)).value

unfoldable pub from_at : SceneConfig → ℕ → Rng
from_at config k = (head_of config (state_of config k)).rng

unfoldable pub len_at : SceneConfig → ℕ → ℕ
len_at config k = (head_at config k).count

-- the numbers of the points of n polygons, and their lengths
unfoldable pub points_to : SceneConfig → ℕ → List Float
points_to config n = joined (λ k. ring_of (head_at config k) (from_at config k) (len_at config k)) n

unfoldable pub points_of : SceneConfig → List Float
points_of config = points_to config config.polygon_count

unfoldable pub lens_of : SceneConfig → List ℕ
lens_of config = listed (len_at config) config.polygon_count

-- ---- what drawing leaves: how many points there are, and in both lists the numbers from the front on, then what was there
pub record Drawn (config : SceneConfig) (r : ℕ) (given₀ given : List Float) (lens₀ lens : List ℕ) : Type 0 where
  pub count_is : r ≡ sum_to (len_at config) config.polygon_count
  pub few : r ≤ 32768
  pub points_are : given ≡ sets given₀ 0 (points_of config)
  pub lens_are : lens ≡ sets lens₀ 0 (lens_of config)
