-- THE CHECKS OF A RANDOM SITE: 2, 1, and then building's 4 and 5 on the polygons drawn (document 01, "Refusal numbers" and "A random site's width and height are at
-- most 900,000"). What is drawn never has too many points, adds up, and lies in the domain: there is no further 2, no 3 and no further 1. That the answer follows
-- them is proofs/RefusedWhen.antt. Definitions only.
use Rattle.std.specs.Prelude.{◌≡◌, ◌≤◌, true}
use Rattle.site.specs.Checks.{Checks, check}
use Rattle.site.specs.Tables.{Tables}
use Rattle.build.specs.Stored.{grid_of}
use Rattle.build.specs.Checks.{grid_checks}
use Rattle.build.specs.Outcome.{rooms_of}
use Rattle.random.specs.declared.SceneConfig.{SceneConfig}
use Rattle.random.specs.Draws.{points_of, lens_of}
use Rattle.random.specs.Outcome.{in_random_size}

-- 1: "a number lies outside the domain"
pub record Inside (config : SceneConfig) : Type 0 where
  pub width_in : in_random_size config.width ≡ true
  pub height_in : in_random_size config.height ≡ true

abbrev pub random_checks : SceneConfig → Tables → Checks
random_checks config lent =
    check 2 (config.polygon_count ≤ 4096)
    (check 1 (Inside config) (grid_checks (grid_of config.width config.height (points_of config) (lens_of config)) (points_of config) (lens_of config) (rooms_of lent)))
