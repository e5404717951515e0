-- EVERY POINT OF A RANDOM SITE LIES IN THE DOMAIN, where its width and height are at most 900,000: the centre is at most 900,000 from 0, and no point lies over 236
-- from the centre. So the building never refuses a random site as outside the domain (document 01, "Domain"). Assumes nothing.
use Rattle.std.proofs.Common.{◌≡◌, ℕ, ◌+◌, ◌*◌, ◌/◌, ◌^◌, ◌<◌, ◌≤◌, true, false, T, leb, sym, refl, ⊎_elim, zero-le, le_trans, le_of_eq, le_of_lt, mul-le-mul_right, mul_comm, one-mul, mul-one, le_of_mul-le-mul_right, arith, lit≤, pow_pos, le-leb}
use lib.Ieee.{Float, nan, inf, fin, down, of_bits, of_int, neg, le, to_unsigned}
use lib.Ieee.Exact.{HasValue}
use Rattle.num.specs.Ops.{◌⊕◌, ◌⊗◌, zero_f}
use Rattle.num.proofs.Whole.{yes}
use Rattle.lists.specs.Members.{All}
use Rattle.lists.proofs.Cases.{lt_or_le}
use Rattle.lists.proofs.AllTo.{both}
use Rattle.lists.proofs.Joined.{all_joined}
use Rattle.rng.specs.declared.Rng.{Rng}
use Rattle.rng.specs.Rng.{word_of, fraction_of, next_f64_of, range_of}
use Rattle.rng.specs.Laws.{range_within, word_lt, upper_lt, fraction_exact}
use Rattle.angle.specs.Angles.{sin_of, cos_of}
use Rattle.geom.specs.Constants.{half}
use Rattle.geom.specs.Vec.{from_angle_of, add_of, mul_of}
use Rattle.bounds.specs.Within.{Within}
use Rattle.bounds.specs.Domain.{in_domain}
use Rattle.num.proofs.FloatOrder.{le_value, trans}
use Rattle.bounds.proofs.Within.{held, one_pos, tests_within, round_within, add_within, mul_within, cast_within}
use Rattle.bounds.proofs.Domain.{zero_is, within_domain}
use Rattle.grid.specs.Range.{count_f}
use Rattle.random.specs.declared.SceneConfig.{SceneConfig}
use Rattle.random.specs.declared.Head.{Head}
use Rattle.random.specs.Draws.{head_of, angle_at, corner_by, state_at, corner_at, ring_of, state_of, head_at, from_at, len_at, points_to, points_of}
use Rattle.random.specs.Outcome.{most, in_random_size}
use Rattle.random.proofs.Drawing.{head_count}
use Rattle.random.proofs.Turns.{angle_of, turn_within}

-- ---- the draws
most_in : HasValue most false 900000 1
unfolding of_bits
most_in = (refl, refl)

minus_most_in : HasValue (neg most) true 900000 1
unfolding of_bits neg
minus_most_in = (refl, refl)

-- a width or a height
pub random_size : (x : Float) → in_random_size x ≡ true → Within 900000 x
unfolding in_random_size
random_size x e =
    let b = both (le zero_f x) (le x most) e in
    tests_within 900000 (neg most) most x minus_most_in most_in
    (trans (neg most) zero_f x (le_value (neg most) zero_f true 900000 1 false 0 1 one_pos one_pos minus_most_in zero_is zero-le) (yes b.0))
    (yes b.1)

-- a draw from lo up to hi, hi out
range_most : (g : Rng) (lo hi b : ℕ) → lo ≤ b → hi ≤ b + 1 → (range_of g lo hi).value ≤ b
range_most g lo hi b h k = ⊎_elim (λ l. omega (arith, (range_within g lo hi l).1)) none (lt_or_le lo hi)
  where
    none : hi ≤ lo → (range_of g lo hi).value ≤ b
    none l = unfold range_of in rw (le-leb hi lo l) h

count_within : (n b : ℕ) → T (leb b 9007199254740992) → n ≤ b → Within b (count_f n)
unfolding of_int
count_within n b t h = round_within false n 1 b one_pos (held t) (le_trans h (le_of_eq (sym (mul-one b))))

-- a share of one
share_within : (n c : ℕ) (y : Float) → 0 < c → n ≤ c → HasValue y false n c → Within 1 y
share_within n c nan p h v = v
share_within n c (inf s) p h v = v
share_within n c (fin s m e) p h v = le_of_mul-le-mul_right (le_trans (le_of_eq v.1) (le_trans (mul-le-mul_right (down e) h) (le_of_eq (swap c (down e))))) p
  where
    swap : (c d : ℕ) → c * d ≡ 1 * d * c
    swap c d = rw one-mul (mul_comm c d)

fraction_within : (g : Rng) → Within 1 (next_f64_of g).value
unfolding next_f64_of
fraction_within g = share_within (word_of g / 2 ^ 11) (2 ^ 53) (fraction_of (word_of g)) (pow_pos 53) (le_of_lt (upper_lt (word_of g) (word_lt g))) (fraction_exact (word_of g) (word_lt g))

half_within : Within 1 half
unfolding of_bits
half_within = lit≤ tt

-- ---- a point
pub record Placed (h : Head) : Type 0 where
  pub least : 3 ≤ h.count
  pub most : h.count ≤ 8
  pub x_in : Within 900000 h.center.x
  pub y_in : Within 900000 h.center.y
  pub radius_in : Within 59 h.radius

pub head_placed : (config : SceneConfig) (g : Rng) → in_random_size config.width ≡ true → in_random_size config.height ≡ true → Placed (head_of config g).value
unfolding head_of
head_placed config g w h = record {
  least = (head_count config g).0;
  most = (head_count config g).1;
  x_in = count_within _ 900000 tt (range_most _ 0 (to_unsigned 64 config.width) 900000 zero-le (le_trans (cast_within 64 900000 config.width (random_size config.width w)) (lit≤ tt)));
  y_in = count_within _ 900000 tt (range_most _ 0 (to_unsigned 64 config.height) 900000 zero-le (le_trans (cast_within 64 900000 config.height (random_size config.height h)) (lit≤ tt)));
  radius_in = count_within _ 59 tt (range_most _ 5 60 59 (lit≤ tt) (lit≤ tt));
}

module _ (h : Head) (p : Placed h) (i : ℕ) (l : i < h.count) where
  -- how far from the centre: radius * (0.5 + fraction)
  reach : (g : Rng) → Within 118 (h.radius ⊗ (half ⊕ (next_f64_of g).value))
  reach g = mul_within 59 2 118 h.radius (half ⊕ (next_f64_of g).value) (lit≤ tt) (held tt) p.radius_in (add_within 1 1 2 half (next_f64_of g).value (lit≤ tt) (held tt) half_within (fraction_within g))

  off : (c u : Float) (g : Rng) → Within 900000 c → Within 2 u → in_domain (c ⊕ u ⊗ (h.radius ⊗ (half ⊕ (next_f64_of g).value))) ≡ true
  off c u g a b =
      within_domain (c ⊕ u ⊗ (h.radius ⊗ (half ⊕ (next_f64_of g).value)))
      (add_within 900000 236 1000000 c (u ⊗ (h.radius ⊗ (half ⊕ (next_f64_of g).value))) (lit≤ tt) (held tt) a
      (mul_within 2 118 236 u (h.radius ⊗ (half ⊕ (next_f64_of g).value)) (lit≤ tt) (held tt) b (reach g)))

  pub corner_inside : (g : Rng) → (in_domain (corner_at h g i).x ≡ true) × (in_domain (corner_at h g i).y ≡ true)
  unfolding corner_at corner_by angle_at add_of mul_of from_angle_of
  corner_inside g =
      let t = turn_within h.count i p.least p.most l in
      (off h.center.x (cos_of (angle_of h.count i)) (state_at h g i) p.x_in t.0, off h.center.y (sin_of (angle_of h.count i)) (state_at h g i) p.y_in t.1)

-- ---- all of them
ring_inside : (h : Head) (g : Rng) → Placed h → All (λ x. in_domain x ≡ true) (ring_of h g h.count)
unfolding ring_of
ring_inside h g p =
    all_joined (λ x. in_domain x ≡ true) _ h.count (λ i l. let c = corner_inside h p i l g in (c.0, (c.1, tt)))

pub points_inside : (config : SceneConfig) → in_random_size config.width ≡ true → in_random_size config.height ≡ true → All (λ x. in_domain x ≡ true) (points_of config)
unfolding points_of points_to head_at from_at len_at
points_inside config w h =
    all_joined (λ x. in_domain x ≡ true) _ config.polygon_count (λ k l. ring_inside (head_of config (state_of config k)).value (head_of config (state_of config k)).rng (head_placed config (state_of config k) w h))
