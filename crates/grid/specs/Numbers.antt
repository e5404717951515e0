-- A box query's answer as plain numbers: its status, 0 or document 01's number of the refusal, and its values, zeros where it is refused. Document 01,
-- "Choosing the form by place" ("If an answer is an enum, a definition gives this paper's number and values for each case") and "Refusal numbers" ("Each
-- refusal carries its number and zero counts"). Definitions only.
use Rattle.std.specs.Prelude.{◌≡◌, List, [], ◌∷◌, ℕ, Result, Ok, Err}
use Rattle.grid.specs.Query.{Outcome}
use Rattle.grid.specs.declared.Listing.{Listing}
use Rattle.refusal.specs.declared.Refusal.{Refusal}
use Rattle.refusal.specs.Numbers.{status_of}

-- ids written and entries read
abbrev pub listed_counts : Result Listing Refusal → List ℕ
listed_counts (Ok l) = l.written ∷ l.read ∷ []
listed_counts (Err r) = 0 ∷ 0 ∷ []

-- every part of what a query does, with its answer as numbers
pub record Lists (o : Outcome) (status : ℕ) (marks : List ℕ) (epoch : ℕ) (ids counts : List ℕ) : Type 0 where
  pub status_is : status ≡ status_of o.answer
  pub marks_are : marks ≡ o.marks
  pub epoch_is : epoch ≡ o.epoch
  pub ids_are : ids ≡ o.ids
  pub counts_are : counts ≡ listed_counts o.answer
