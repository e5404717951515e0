-- The steps of the two loops that draw: one point more of a polygon, one polygon more; and how much is drawn. Assumes nothing.
use Rattle.std.proofs.Common.{◌≡◌, ℕ, zero, suc, ◌+◌, ◌*◌, ◌≤◌, List, [], ◌∷◌, length, set, refl, ◌∙◌, mul_comm, zero-add, arith, length-append}
use lib.Seq.{sets}
use lib.Ieee.{Float}
use Rattle.lists.specs.Lists.{listed, sum_to}
use Rattle.lists.proofs.Joined.{length_joined, length_listed}
use Rattle.lists.proofs.Stores.{sets_append}
use Rattle.lists.proofs.Sums.{sum_to_const}
use Rattle.rng.specs.declared.Rng.{Rng}
use Rattle.rng.specs.Rng.{range_of}
use Rattle.rng.specs.Laws.{range_within}
use Rattle.random.specs.declared.SceneConfig.{SceneConfig}
use Rattle.geom.specs.declared.Vec2.{Vec2}
use Rattle.random.specs.declared.Head.{Head}
use Rattle.random.specs.Draws.{head_of, corner_by, state_at, corner_at, ring_of, after_of, state_of, head_at, from_at, len_at, points_to}

-- ---- a polygon has 3 to 8 points
pub head_count : (config : SceneConfig) (g : Rng) → (3 ≤ (head_of config g).value.count) × ((head_of config g).value.count ≤ 8)
unfolding head_of
head_count config g = let w = range_within g 3 9 (omega arith) in (w.0, omega (arith, w.1))

pub few_points : (config : SceneConfig) (g : Rng) {h : Head} → h ≡ (head_of config g).value → h.count ≤ 8
few_points config g e = rw e (head_count config g).1

pub len_most : (config : SceneConfig) (k : ℕ) → len_at config k ≤ 8
unfolding len_at head_at
len_most config k = (head_count config (state_of config k)).1

-- ---- one point more
pub ring_length : (h : Head) (g : Rng) (n : ℕ) → length (ring_of h g n) ≡ 2 * n
unfolding ring_of
ring_length h g n = length_joined (λ i. (corner_at h g i).x ∷ (corner_at h g i).y ∷ []) n ∙ sum_to_const 2 n ∙ mul_comm n 2

module _ (h : Head) (g : Rng) (i : ℕ) where
  pub next_state : {r s : Rng} → r ≡ state_at h g i → s ≡ (corner_by h i r).rng → s ≡ state_at h g (i + 1)
  unfolding state_at
  next_state e f =
      let m : i + 1 ≡ suc i = omega arith in
      rw (m, f, e)

  pub corner_is : {r : Rng} {p : Vec2} → r ≡ state_at h g i → p ≡ (corner_by h i r).value → p ≡ corner_at h g i
  unfolding corner_at
  corner_is e f = rw (f, e)

  pub next_corner : (l : List Float) (a at : ℕ) {l₁ l₂ l₃ : List Float} {x y : Float} → l₁ ≡ sets l a (ring_of h g i) → l₂ ≡ set l₁ at x → l₃ ≡ set l₂ (at + 1) y
      → at ≡ a + 2 * i → x ≡ (corner_at h g i).x → y ≡ (corner_at h g i).y → l₃ ≡ sets l a (ring_of h g (i + 1))
  unfolding ring_of
  next_corner l a at e₁ e₂ e₃ p q r =
      let o : a + 2 * i + 1 ≡ suc (a + 2 * i) = omega arith in
      let m : i + 1 ≡ suc i = omega arith in
      let n : length (ring_of h g i) ≡ 2 * i = ring_length h g i in
      rw (e₃, e₂, e₁, p, q, r, o, m, sets_append l a (ring_of h g i) ((corner_at h g i).x ∷ (corner_at h g i).y ∷ []), n)

-- ---- one polygon more
module _ (config : SceneConfig) where
  pub points_length : (k : ℕ) → length (points_to config k) ≡ 2 * sum_to (len_at config) k
  unfolding points_to
  points_length zero = refl
  points_length (suc k) =
      omega (arith, length-append (points_to config k) (ring_of (head_at config k) (from_at config k) (len_at config k)), points_length k, ring_length (head_at config k) (from_at config k) (len_at config k))

  module _ (k : ℕ) where
    pub head_is : {g : Rng} {h : Head} → g ≡ state_of config k → h ≡ (head_of config g).value → h ≡ head_at config k
    unfolding head_at
    head_is e f = rw (f, e)

    pub from_is : {g r : Rng} → g ≡ state_of config k → r ≡ (head_of config g).rng → r ≡ from_at config k
    unfolding from_at
    from_is e f = rw (f, e)

    pub next_first : {first : ℕ} {h : Head} → first ≡ sum_to (len_at config) k → h ≡ head_at config k → first + h.count ≡ sum_to (len_at config) (k + 1)
    unfolding len_at
    next_first e f =
        let m : k + 1 ≡ suc k = omega arith in
        rw (m, e, f)

    pub next_polygon : {r g s : Rng} {h : Head} → g ≡ state_at h r h.count → h ≡ head_at config k → r ≡ from_at config k → s ≡ (range_of g 0 10).rng → s ≡ state_of config (k + 1)
    unfolding state_of after_of head_at from_at
    next_polygon e f q o =
        let m : k + 1 ≡ suc k = omega arith in
        rw (m, o, e, f, q)

    pub next_ring : (l : List Float) {l₁ l₂ : List Float} {h : Head} {r : Rng} {at : ℕ} → l₁ ≡ sets l 0 (points_to config k) → l₂ ≡ sets l₁ at (ring_of h r h.count)
        → h ≡ head_at config k → r ≡ from_at config k → at ≡ 2 * sum_to (len_at config) k → l₂ ≡ sets l 0 (points_to config (k + 1))
    unfolding points_to len_at
    next_ring l e₁ e₂ f q p =
        let m : k + 1 ≡ suc k = omega arith in
        let n : length (points_to config k) ≡ 2 * sum_to (len_at config) k = points_length k in
        rw (m, sets_append l 0 (points_to config k) (ring_of (head_at config k) (from_at config k) (len_at config k)), zero-add, n, e₂, e₁, p, f, q)

    pub next_len : (l : List ℕ) {l₁ l₂ : List ℕ} {h : Head} → l₁ ≡ sets l 0 (listed (len_at config) k) → l₂ ≡ set l₁ k h.count → h ≡ head_at config k
        → l₂ ≡ sets l 0 (listed (len_at config) (k + 1))
    unfolding len_at
    next_len l e₁ e₂ f =
        let m : k + 1 ≡ suc k = omega arith in
        rw (m, sets_append l 0 (listed (len_at config) k) (len_at config k ∷ []), zero-add, length_listed (len_at config) k, e₂, e₁, f)
