-- What `ViewCone::outline` answers and leaves in the lent list: one outcome for each input. Document 01, "Refusal numbers", of its rules for questions those that a
-- call without tables and stamps can meet: 1 where a number lies outside the domain, and nothing is written; then 8 where the list would pass its entries, and it is
-- all zero; else the points, and the rest of the list is zero. An entry is a pair of numbers: of an odd length the last number is never used. Definitions only.
use Rattle.std.specs.Prelude.{◌≡◌, Bool, cond, List, ℕ, ◌*◌, ltb, length, replicate, Float, Err, Ok, Result}
use Rattle.num.specs.Ops.{zero_f}
use Rattle.lists.specs.Parts.{padded}
use Rattle.geom.specs.declared.Vec2.{Vec2}
use Rattle.site.specs.Domain.{load_of}
use Rattle.cone.specs.declared.ViewCone.{ViewCone}
use Rattle.cone.specs.Cone.{outline_of, numbers_of}
use Rattle.cone.specs.Domain.{cone_in_domain, load_cone_of}
use Rattle.refusal.specs.declared.Refusal.{Refusal}
use Rattle.refusal.specs.declared.Refusal.TheVariants.{NoListRoom, OutsideDomain}

-- the answer, and the lent list at exit
pub record Outcome : Type 0 where
  pub answer : Result ℕ Refusal
  pub list : List Float

abbrev pub outcome : (Result ℕ Refusal) → List Float → Outcome
outcome a l = record { answer = a; list = l }

-- ---- the answer as numbers: "If an answer is an enum, a definition gives this paper's number and values for each case"
-- how many points, 0 where it is refused
abbrev pub outline_points : (Result ℕ Refusal) → ℕ
outline_points (Ok n) = n
outline_points (Err n) = 0

-- ---- the outcome
-- the outline of the cone as it is loaded
abbrev pub points_for : ViewCone → Float → List Vec2
points_for c tolerance = outline_of (load_cone_of c) (load_of tolerance)

-- two numbers for each point are more than a list of n numbers holds
abbrev pub too_short : ViewCone → Float → ℕ → Bool
too_short c tolerance n = ltb n (2 * length (points_for c tolerance))

-- these points in a list of so many numbers
abbrev pub laid_in : ℕ → List Vec2 → Outcome
laid_in n l = outcome (Ok (length l)) (padded zero_f n (numbers_of l))

-- THE OUTCOME of a call that is lent `old`
unfoldable pub outline_outcome : ViewCone → Float → List Float → Outcome
outline_outcome c tolerance old =
    cond (cone_in_domain c)
    (cond (too_short c tolerance (length old)) (outcome (Err NoListRoom) (replicate (length old) zero_f)) (laid_in (length old) (points_for c tolerance)))
    (outcome (Err OutsideDomain) old)

-- its promise, the one clause of its contract
abbrev pub Promise : ViewCone → Float → List Float → Outcome → Type 0
Promise c tolerance old o = o ≡ outline_outcome c tolerance old
