-- BUILDING REFUSES WHAT IS DRAWN ONLY AS 4 OR 5: it is never too many points, always adds up, and lies in the domain (document 01, "Refusal numbers"). When a random
-- site is refused is RefusedWhen.antt. Assumes nothing.
use Rattle.std.proofs.Common.{◌≡◌, ℕ, zero, suc, ◌*◌, ◌≤◌, true, false, ◌&&◌, T, length, get_or, sym, ap, ◌∙◌, le_trans, le_of_eq, suc-mul, arith, le-ltb, eq-eqb}
use lib.Ieee.{Float, nan, of_bits, le}
use lib.Ieee.Bits.{is_true}
use Rattle.num.specs.Ops.{zero_f}
use Rattle.num.proofs.Whole.{yes}
use Rattle.lists.specs.Lists.{sum_to}
use Rattle.lists.proofs.AllTo.{both, all_to_lem}
use Rattle.lists.proofs.Members.{all_at}
use Rattle.lists.proofs.Joined.{get_d_listed}
use Rattle.lists.proofs.Sums.{sum_to_ext}
use Rattle.bounds.specs.Domain.{million, in_domain, in_size}
use Rattle.num.proofs.FloatOrder.{trans}
use Rattle.build.specs.Stored.{first_in, grid_of}
use Rattle.build.specs.Refusals.{points_in, too_many, adds_up, numbers_in, all_inside}
use Rattle.site.specs.Tables.{Tables}
use Rattle.build.specs.Outcome.{plan_by, plan_of}
use Rattle.build.specs.Outcome as building
use Rattle.random.specs.declared.SceneConfig.{SceneConfig}
use Rattle.random.specs.Draws.{len_at, points_of, lens_of}
use Rattle.random.specs.Outcome.{most, in_random_size}
use Rattle.random.proofs.Drawing.{len_most}
use Rattle.random.proofs.Ways.{length_points, length_lens}
use Rattle.random.proofs.Inside.{points_inside}

-- eight points at most for each polygon
sum_most : (f : ℕ → ℕ) (b n : ℕ) → ((k : ℕ) → f k ≤ b) → sum_to f n ≤ n * b
sum_most f b zero h = omega arith
sum_most f b (suc n) h = omega (arith, sum_most f b n h, h n, suc-mul n b)

module _ (config : SceneConfig) (few : config.polygon_count ≤ 4096) where
  points_few : points_in (points_of config) ≤ 65536
  points_few =
      let s : sum_to (len_at config) config.polygon_count ≤ config.polygon_count * 8 = sum_most (len_at config) 8 config.polygon_count (len_most config) in
      let e : length (points_of config) ≡ 2 * sum_to (len_at config) config.polygon_count = length_points config in
      omega arith

  pub never_many : too_many (points_of config) (lens_of config) ≡ false
  unfolding too_many
  never_many =
      let e : length (lens_of config) ≤ 4096 = le_trans (le_of_eq (length_lens config)) few in
      rw (le-ltb 4096 (length (lens_of config)) e, le-ltb 65536 (points_in (points_of config)) points_few)

pub adds : (config : SceneConfig) → adds_up (points_of config) (lens_of config) ≡ true
unfolding adds_up
adds config = eq-eqb (2 * first_in (lens_of config) (length (lens_of config))) (length (points_of config)) (ap (λ (n : ℕ). 2 * n) same ∙ sym (length_points config))
  where
    same : first_in (lens_of config) (length (lens_of config)) ≡ sum_to (len_at config) config.polygon_count
    same =
        unfold lens_of in
        ap (first_in (lens_of config)) (length_lens config)
        ∙ sum_to_ext (λ k. get_or (lens_of config) k 0) (len_at config) config.polygon_count (λ k l. get_d_listed (len_at config) config.polygon_count k 0 l)

-- a width or a height of at most 900,000 is one of at most 1,000,000
size_of : (x : Float) → in_random_size x ≡ true → in_size x ≡ true
unfolding in_random_size in_size
size_of x e =
    let b = both (le zero_f x) (le x most) e in
    rw b.0 (is_true (le x million) (trans x most million (yes b.1) most_million))
  where
    most_million : T (le most million)
    most_million = unfold le of_bits in tt

module _ (config : SceneConfig) (sizes : (in_random_size config.width && in_random_size config.height) ≡ true) where
  pub all_in : all_inside config.width config.height (points_of config) ≡ true
  unfolding all_inside numbers_in
  all_in =
      let b = both (in_random_size config.width) (in_random_size config.height) sizes in
      rw (size_of config.width b.0, size_of config.height b.1)
      (all_to_lem (λ i. in_domain (get_or (points_of config) i nan)) (length (points_of config))
      (λ i l. all_at (λ x. in_domain x ≡ true) (points_of config) i nan (points_inside config b.0 b.1) l))

  -- THE BUILDING comes to its last two tests, of the cells (4) and of the room (5)
  pub built_by : config.polygon_count ≤ 4096 → (lent : Tables)
      → plan_of config.width config.height (points_of config) (lens_of config) (building.rooms_of lent)
      ≡ plan_by config.width config.height (grid_of config.width config.height (points_of config) (lens_of config)) (points_of config) (lens_of config) (building.rooms_of lent)
  unfolding plan_of
  built_by few lent = rw (never_many config few, adds config, all_in)
