-- NO SECOND OUTCOME. Of `grid`'s calls `box_query` alone promises a record, `Is`: two outcomes that both meet the promise of one input are the same, answer and every
-- lent cell. Every other call promises an equation for its answer and one for each lent cell, and they leave no choice. Assumes nothing.
use Rattle.std.proofs.Common.{Result}
use Prim.Native.Nat.{ℕ}
use mathlib.Core.Path.{◌≡◌, sym, ◌∙◌}
use mathlib.Core.List.{List}
use Rattle.grid.specs.declared.Listing.{Listing}
use Rattle.grid.specs.Query.{Outcome, Is}
use Rattle.refusal.specs.declared.Refusal.{Refusal}

pub record SameListing (a b : (Result Listing Refusal)) (m n : List ℕ) (d e : ℕ) (i j : List ℕ) : Type 0 where
  pub answers : a ≡ b
  pub marks : m ≡ n
  pub epochs : d ≡ e
  pub ids : i ≡ j

pub only_listing : (o : Outcome) (a b : (Result Listing Refusal)) (m n : List ℕ) (d e : ℕ) (i j : List ℕ) → Is o a m d i → Is o b n e j → SameListing a b m n d e i j
only_listing o a b m n d e i j h k = record {
  answers = h.answer_is ∙ sym k.answer_is;
  marks = h.marks_are ∙ sym k.marks_are;
  epochs = h.epoch_is ∙ sym k.epoch_is;
  ids = h.ids_are ∙ sym k.ids_are;
}
