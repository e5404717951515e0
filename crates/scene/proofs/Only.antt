-- NO SECOND OUTCOME. Every call of `scene` promises its answer in one of three shapes: an equation, `Is` or `NewIs`. Two outcomes that both meet the promise of
-- one input are the same, answer and every lent cell. Assumes nothing.
use Rattle.std.proofs.Common.{Result}
use Prim.Native.Nat.{ℕ}
use mathlib.Core.Path.{◌≡◌, sym, ◌∙◌}
use mathlib.Core.List.{List}
use Rattle.grid.specs.declared.Listing.{Listing}
use Rattle.grid.specs.Query.{Outcome, Is}
use Rattle.grid.proofs.Only as Grid
use Rattle.grid.proofs.Only.{SameListing}
use Rattle.scene.specs.Stamping.{NewOutcome, NewIs}
use Rattle.refusal.specs.declared.Refusal.{Refusal}

-- calls that write nothing: `r ≡ width_of ..`, .., `r ≡ cast_ray_of ..`, and the returned parts, `now r ≡ items_at_of ..`
pub only : {A : Type 0} (o r s : A) → r ≡ o → s ≡ o → r ≡ s
only o r s h k = h ∙ sym k

-- `new_stamps`
pub record SameNew (a b : Result (Unit {0}) Refusal) (m n : List ℕ) (d e : ℕ) : Type 0 where
  pub answers : a ≡ b
  pub marks : m ≡ n
  pub epochs : d ≡ e

pub only_new : (o : NewOutcome) (a b : Result (Unit {0}) Refusal) (m n : List ℕ) (d e : ℕ) → NewIs o a m d → NewIs o b n e → SameNew a b m n d e
only_new o a b m n d e h k =
    record { answers = only _ a b h.answer_is k.answer_is; marks = only _ m n h.marks_are k.marks_are; epochs = only _ d e h.epoch_is k.epoch_is }

-- `polygons_near` promises what the grid's box query does
pub only_listing : (o : Outcome) (a b : (Result Listing Refusal)) (m n : List ℕ) (d e : ℕ) (i j : List ℕ) → Is o a m d i → Is o b n e j → SameListing a b m n d e i j
only_listing = Grid.only_listing
