-- The engine's outcome with its answer as plain numbers, as the grid's answer has them (`grid/specs/Numbers.antt`). Definitions only.
use Rattle.std.specs.Prelude.{◌≡◌, List, ℕ}
use Rattle.grid.specs.Numbers.{listed_counts}
use Rattle.near.specs.Outcome.{Outcome}
use Rattle.refusal.specs.Numbers.{status_of}

-- both parts of an outcome: a status and two counts, and the list of ids
pub record Lists (o : Outcome) (status : ℕ) (ids counts : List ℕ) : Type 0 where
  pub status_is : status ≡ status_of o.answer
  pub ids_are : ids ≡ o.ids
  pub counts_are : counts ≡ listed_counts o.answer
