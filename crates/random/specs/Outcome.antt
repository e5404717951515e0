-- What a random site's building does, one outcome for each setting and lent tables: refusals 2 and 1 first, then what building says of the polygons drawn
-- (document 01, "A random site's width and height are at most 900,000" and "Refusal numbers"; `Scene::random` of `scene.rs`). Assumes nothing.
use Rattle.std.specs.Prelude.{◌≡◌, Bool, false, cond, ◌&&◌, nat_lt, refl, Float, Err}
use Rattle.std.specs.Float.{binary64}
use Rattle.std.specs.Float.Ieee.{of_bits, round, le}
use Rattle.num.specs.Ops.{zero_f}
use Rattle.site.specs.Tables.{Tables}
use Rattle.build.specs.Outcome as building
use Rattle.random.specs.declared.SceneConfig.{SceneConfig}
use Rattle.random.specs.Draws.{points_of, lens_of}
use Rattle.refusal.specs.declared.Refusal.{Refusal}
use Rattle.refusal.specs.declared.Refusal.TheVariants.{TooMany, OutsideDomain}

-- `SceneConfig::default`: 500 polygons on 2000 by 2000
abbrev pub two_thousand : Float
two_thousand = of_bits binary64 0x409f_4000_0000_0000

pub two_thousand_is : two_thousand ≡ round binary64 false 2000 1
unfolding of_bits round
two_thousand_is = refl

abbrev pub default_config : SceneConfig
default_config = record { width = two_thousand; height = two_thousand; polygon_count = 500; seed = 0x5eed }

-- ---- a width or a height of a random site: finite, from 0 to 900,000. No NaN passes
abbrev pub most : Float
most = of_bits binary64 0x412b_7740_0000_0000

pub most_is : most ≡ round binary64 false 900000 1
unfolding of_bits round
most_is = refl

unfoldable pub in_random_size : Float → Bool
in_random_size x = le zero_f x && le x most

-- ---- the outcome
-- refused, and every table as it was
abbrev pub refused : Refusal → Tables → building.Outcome
refused refusal lent = record { answer = Err refusal; left = lent }

-- 2: "over 4,096 polygons"; 1: "a number lies outside the domain"; then building
unfoldable pub outcome : SceneConfig → Tables → building.Outcome
outcome config lent =
    cond (nat_lt 4096 config.polygon_count) (refused TooMany lent)
    (cond (in_random_size config.width && in_random_size config.height)
    (building.outcome config.width config.height (points_of config) (lens_of config) lent)
    (refused OutsideDomain lent))
