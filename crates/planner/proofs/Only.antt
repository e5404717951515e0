-- ONE ANSWER TO A TEXT: `answer` and `answer_three` promise no second outcome, neither of the length nor of the lent room.
-- Assumes nothing.
use mathlib.Core.Path.{◌≡◌, sym, ◌∙◌}
use mathlib.Core.List.{List}
use Prim.Native.Nat.{ℕ}
use Rattle.planner.specs.Answer.{Answers}

pub only : (places : ℕ) (text out : List ℕ) (r s : ℕ) (o p : List ℕ) → Answers places text out r o → Answers places text out s p → (r ≡ s) × (o ≡ p)
only places text out r s o p a b = (a.long ∙ sym b.long, a.says ∙ sym b.says)
