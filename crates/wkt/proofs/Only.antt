-- NO SECOND OUTCOME. `read_input` promises a record, `Says`: two outcomes that both meet the promise of one text are the same, answer and every lent cell. `ten_to`
-- promises an equation. Assumes nothing.
use Rattle.std.proofs.Common.{◌≡◌, ℕ, List, Result, sym, ◌∙◌}
use lib.Ieee.{Float}
use Rattle.refusal.specs.declared.Refusal.{Refusal}
use Rattle.wkt.specs.declared.Input.{Input}
use Rattle.wkt.specs.Answer.{Says}

pub record SameInput (r q : Result Input Refusal) (p o : List Float) (l m : List ℕ) : Type 0 where
  pub answers : r ≡ q
  pub points : p ≡ o
  pub lengths : l ≡ m

pub only : (t : List ℕ) (a b : ℕ) (r q : Result Input Refusal) (p o : List Float) (l m : List ℕ) → Says t a b r p l → Says t a b q o m → SameInput r q p o l m
only t a b r q p o l m h k = record {
  answers = h.answer ∙ sym k.answer;
  points = h.points ∙ sym k.points;
  lengths = h.lengths_in ∙ sym k.lengths_in;
}
