-- What an answer shows: how many points and ids it has, and where they stand. Document 01, "An output list's entries are those of its own slice". Definitions only.
use Rattle.std.specs.Prelude.{◌≡◌, List, ℕ, ◌*◌, length, Float, Err, Ok, Result}
use Rattle.lists.specs.Parts.{Has}
use Rattle.stages.specs.Drawing.{Drawing}
use Rattle.refusal.specs.declared.Refusal.{Refusal}
use Rattle.stages.specs.declared.Shown.{Shown}

-- how many points and ids an answer has
unfoldable pub points_in : (Result Shown Refusal) → ℕ
points_in (Ok s) = s.points
points_in (Err n) = 0

unfoldable pub ids_in : (Result Shown Refusal) → ℕ
ids_in (Ok s) = s.visible
ids_in (Err n) = 0

-- the answer is r, and its two lists stand in front of the output slices
pub record Shows (d : Drawing) (r : (Result Shown Refusal)) (outline : List Float) (visible : List ℕ) : Type 0 where
  pub is : r ≡ d.answer
  pub points_many : 2 * points_in d.answer ≡ length d.pts
  pub ids_many : ids_in d.answer ≡ length d.ids
  pub points_laid : Has outline 0 d.pts
  pub ids_laid : Has visible 0 d.ids
