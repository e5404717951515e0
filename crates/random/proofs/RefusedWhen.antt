-- WHEN A RANDOM SITE IS REFUSED, AND AS WHAT: its status is n if and only if document 01's row of n says so, in the order 2, 1, 4, 5; 3 is never given; what passes them
-- all is built, with status 0. Document 01, "Refusal numbers". Assumes nothing.
use Rattle.std.proofs.Common.{◌≡◌, ◌≤◌, true, ◌&&◌, ltb, refl, ltb-false, le-ltb}
use Rattle.lists.proofs.AllTo.{both}
use Rattle.site.specs.Tables.{Tables}
use Rattle.site.specs.Checks.{Exactly}
use Rattle.site.proofs.Checks.{never, by_true, by_false, either}
use Rattle.build.specs.Stored.{grid_of}
use Rattle.build.specs.Checks.{grid_checks}
use Rattle.build.specs.Outcome.{plan_of, rooms_of}
use Rattle.build.specs.Outcome as building
use Rattle.build.proofs.RefusedWhen.{plan_status_lem, grid_exactly}
use Rattle.random.specs.declared.SceneConfig.{SceneConfig}
use Rattle.random.specs.Draws.{points_of, lens_of}
use Rattle.random.specs.Outcome.{in_random_size, outcome}
use Rattle.random.specs.Checks.{Inside, random_checks}
use Rattle.random.proofs.Refusing.{built_by}
use Rattle.refusal.specs.Numbers.{status_of}

module _ (config : SceneConfig) where
  -- ---- the test of the sizes says what its row says
  inside : (in_random_size config.width && in_random_size config.height) ≡ true → Inside config
  inside e = let b = both (in_random_size config.width) (in_random_size config.height) e in record { width_in = b.0; height_in = b.1 }

  sizes : Inside config → (in_random_size config.width && in_random_size config.height) ≡ true
  sizes i = rw (i.width_in, i.height_in)

  module _ (lent : Tables) where
    -- ---- building comes to 4 and 5 at once
    drawn : config.polygon_count ≤ 4096 → Inside config
        → Exactly (grid_checks (grid_of config.width config.height (points_of config) (lens_of config)) (points_of config) (lens_of config) (rooms_of lent))
        (status_of (building.outcome config.width config.height (points_of config) (lens_of config) lent).answer)
    unfolding building.outcome
    drawn few i =
        rw (← plan_status_lem (plan_of config.width config.height (points_of config) (lens_of config) (rooms_of lent)) (points_of config) (lens_of config) lent, built_by config (sizes i) few lent)
        (grid_exactly config.width config.height (points_of config) (lens_of config) (rooms_of lent) (grid_of config.width config.height (points_of config) (lens_of config)))

    -- RANDOM SITES
    pub random_exactly : Exactly (random_checks config lent) (status_of (outcome config lent).answer)
    unfolding outcome
    random_exactly =
        rw (either (λ (o : building.Outcome). status_of o.answer) (ltb 4096 config.polygon_count), either (λ (o : building.Outcome). status_of o.answer) (in_random_size config.width && in_random_size config.height))
        (by_false 2 _ _ _ (ltb 4096 config.polygon_count) refl (ltb-false _ _) (le-ltb _ _)
        (λ few. by_true 1 _ _ _ (in_random_size config.width && in_random_size config.height) refl inside sizes (λ i. drawn few i)))

    -- 3 is never given
    pub never_three : status_of (outcome config lent).answer ≡ 3 → ⊥
    never_three = never random_exactly 3 refl
