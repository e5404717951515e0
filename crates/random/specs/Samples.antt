-- The first polygons of two random sites, computed by the definitions: count of points, centre and radius of each, as a second computation of the Rust's lines, by
-- arithmetic on whole numbers, gives them. The later heads hold only if every draw before them is made, the colours' too. Assumes nothing.
use Rattle.std.specs.Prelude.{◌≡◌, ℕ, List, [], ◌∷◌, refl}
use Rattle.std.specs.Float.Ieee.{of_bits, of_int, to_unsigned}
use Rattle.lists.specs.Lists.{joined}
use Rattle.geom.specs.Constants.{half}
use Rattle.rng.specs.Rng.{next_f64_of, range_of}
use Rattle.random.specs.declared.SceneConfig.{SceneConfig}
use Rattle.random.specs.declared.Head.{Head}
use Rattle.random.specs.Draws.{head_of, corner_by, state_at, after_of, state_of, head_at}
use Rattle.random.specs.Outcome.{two_thousand, default_config}

abbrev numbers : Head → List ℕ
numbers h = h.count ∷ to_unsigned 64 h.center.x ∷ to_unsigned 64 h.center.y ∷ to_unsigned 64 h.radius ∷ []

unfoldable pub heads_of : SceneConfig → ℕ → List ℕ
heads_of config n = joined (λ k. numbers (head_at config k)) n

-- the default settings
pub first_heads : heads_of default_config 4 ≡ 3 ∷ 665 ∷ 729 ∷ 29 ∷ 8 ∷ 490 ∷ 692 ∷ 26 ∷ 5 ∷ 1790 ∷ 1144 ∷ 8 ∷ 8 ∷ 1048 ∷ 175 ∷ 15 ∷ []
unfolding heads_of head_at head_of state_of after_of state_at corner_by next_f64_of range_of of_bits of_int to_unsigned
first_heads = refl

-- a site narrower than 1: no number is drawn for a column, so the first row is what was the first column above
pub narrow_heads : heads_of (record { width = half; height = two_thousand; polygon_count = 500; seed = 0x5eed }) 3 ≡ 3 ∷ 0 ∷ 665 ∷ 25 ∷ 3 ∷ 0 ∷ 1708 ∷ 18 ∷ 7 ∷ 0 ∷ 1228 ∷ 57 ∷ []
unfolding heads_of head_at head_of state_of after_of state_at corner_by next_f64_of range_of of_bits of_int to_unsigned
narrow_heads = refl
