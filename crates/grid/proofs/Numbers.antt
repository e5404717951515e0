-- A query's answer as numbers has every part of the outcome. Assumes nothing.
use Rattle.std.proofs.Common.{Result}
use mathlib.Core.Path.{◌≡◌, ap, ◌∙◌}
use mathlib.Core.List.{List}
use Prim.Native.Nat.{ℕ}
use Rattle.grid.specs.Query.{Outcome, Is, counted}
use Rattle.grid.specs.Numbers.{listed_counts, Lists}
use Rattle.grid.specs.declared.Listing.{Listing}
use Rattle.refusal.specs.declared.Refusal.{Refusal}
use Rattle.refusal.specs.Numbers.{status_of}

pub lists
    : (o : Outcome) (a : (Result Listing Refusal)) (marks : List ℕ) (epoch : ℕ) (ids : List ℕ) (status : ℕ) (counts : List ℕ) → Is o a marks epoch ids
    → status ≡ status_of a → counts ≡ listed_counts a → Lists o status marks epoch ids counts
lists o a marks epoch ids status counts d s n = record {
  status_is = s ∙ ap status_of d.answer_is;
  marks_are = d.marks_are;
  epoch_is = d.epoch_is;
  ids_are = d.ids_are;
  counts_are = n ∙ ap listed_counts d.answer_is;
}

-- an answer names its two numbers
pub counted_same : {a b c d : ℕ} → counted a b ≡ counted c d → (a ≡ c) × (b ≡ d)
counted_same {a} {b} {c} {d} e =
    let r : ◌≡◌ {A = Listing} (record { written = a; read = b }) (record { written = c; read = d }) = cc in
    (ap (λ (l : Listing). l.written) r, ap (λ (l : Listing). l.read) r)
