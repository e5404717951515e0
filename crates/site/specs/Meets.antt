-- Where a ray meets an edge, held against a distance: at exactly it, or nearer, as floats compare. For the casts, which ask this of each edge that they test
-- (document 02, Q-3). Definitions only.
use Rattle.std.specs.Prelude.{Bool, false, Float, None, Option, Some}
use Rattle.std.specs.Float.Ieee.{lt, eq}

-- met at exactly the distance t
abbrev pub met_at : Float → (Option Float) → Bool
met_at t (Some u) = eq u t
met_at t None = false

-- met nearer than t
abbrev pub met_before : Float → (Option Float) → Bool
met_before t (Some u) = lt u t
met_before t None = false
