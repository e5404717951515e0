-- The engine's answer as numbers has every part of the outcome. Assumes nothing.
use Rattle.std.proofs.Common.{Result}
use mathlib.Core.Path.{◌≡◌, ap, ◌∙◌}
use mathlib.Core.List.{List}
use Prim.Native.Nat.{ℕ}
use Rattle.grid.specs.declared.Listing.{Listing}
use Rattle.grid.specs.Numbers.{listed_counts}
use Rattle.near.specs.Outcome.{Outcome, Is}
use Rattle.near.specs.Numbers.{Lists}
use Rattle.refusal.specs.declared.Refusal.{Refusal}
use Rattle.refusal.specs.Numbers.{status_of}

pub lists : (o : Outcome) (a : (Result Listing Refusal)) (ids : List ℕ) (status : ℕ) (counts : List ℕ) → Is o a ids → status ≡ status_of a → counts ≡ listed_counts a → Lists o status ids counts
lists o a ids status counts d s n = record { status_is = s ∙ ap status_of d.answer_is; ids_are = d.ids_are; counts_are = n ∙ ap listed_counts d.answer_is }
