-- The settings of a random site as four numbers: `SceneConfig` of the Rust's `scene.rs`. Definitions only.
use Rattle.std.specs.Prelude.{ℕ, Float}
use Rattle.random.specs.declared.SceneConfig.{SceneConfig}

abbrev pub config_of : Float → Float → ℕ → ℕ → SceneConfig
config_of width height number seed = record { width = width; height = height; polygon_count = number; seed = seed }
