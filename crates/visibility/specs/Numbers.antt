-- The answer of an outline call as plain numbers: 0 or document 01's number of the refusal (`status_of` of crate `refusal`), and its nine values, zeros where it is refused. Document 01,
-- "Choosing the form by place" ("a definition gives this paper's number and values for each case"). Definitions only.
use Rattle.std.specs.Prelude.{List, [], ◌∷◌, ℕ, Err, Ok, Result}
use Rattle.lists.specs.Lists.{bit}
use Rattle.refusal.specs.declared.Refusal.{Refusal}
use Rattle.stages.specs.declared.Shown.{Shown}

abbrev pub nine_of : Result Shown Refusal → List ℕ
nine_of (Ok s) =
    bit s.blocked ∷ bit s.full ∷ s.points ∷ s.visible ∷ s.candidates ∷ s.front_edges ∷ s.events ∷ s.rays_cast ∷ s.refinements ∷ []
nine_of (Err r) = 0 ∷ 0 ∷ 0 ∷ 0 ∷ 0 ∷ 0 ∷ 0 ∷ 0 ∷ 0 ∷ []
