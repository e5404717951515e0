-- A REFUSAL LEAVES EVERY TABLE AS IT WAS, and what passes every test is built. Assumes nothing.
use Rattle.std.proofs.Common.{Err, Ok, Result}
use mathlib.Core.Path.{◌≡◌}
use mathlib.Core.Bool.{true, false}
use mathlib.Core.List.{List}
use Prim.Native.Nat.{ℕ, ◌*◌}
use native.Mathlib.Omega.{arith}
use lib.ListN.{length}
use lib.Ieee.{Float}
use Rattle.site.specs.declared.Site.{Site}
use Rattle.site.specs.Tables.{Tables}
use Rattle.build.specs.Stored.{grid_of}
use Rattle.build.specs.Refusals.{points_in, too_many, adds_up, all_inside, few_cells, item_count, has_room}
use Rattle.build.specs.Outcome.{site_of, plan_by, plan_of, outcome_by, rooms_of, outcome, Does}
use Rattle.refusal.specs.declared.Refusal.{Refusal}

left_alone : (p : Result Site Refusal) (given : List Float) (lens : List ℕ) (lent left : Tables) (refusal : Refusal) → Does (outcome_by p given lens lent) (Err refusal) left → left ≡ lent
unfolding outcome_by
left_alone (Err n) given lens lent left refusal d = d.leaves
left_alone (Ok s) given lens lent left refusal d = absurd (no s d.says)
  where
    no : (s : Site) → ◌≡◌ {A = Result Site Refusal} (Err refusal) (Ok s) → ⊥
    no s e = let z : ◌≡◌ {A = ℕ} 0 1 = cc in omega arith

pub nothing_written : (width height : Float) (given : List Float) (lens : List ℕ) (lent left : Tables) (refusal : Refusal) → Does (outcome width height given lens lent) (Err refusal) left → left ≡ lent
unfolding outcome
nothing_written width height given lens lent left refusal d = left_alone (plan_of width height given lens (rooms_of lent)) given lens lent left refusal d

pub built_when : (width height : Float) (given : List Float) (lens : List ℕ) (lent : Tables) → too_many given lens ≡ false → adds_up given lens ≡ true → all_inside width height given ≡ true
    → few_cells (grid_of width height given lens).cols (grid_of width height given lens).rows ≡ true
    → has_room (rooms_of lent) (length lens) (points_in given) ((grid_of width height given lens).cols * (grid_of width height given lens).rows) (item_count (grid_of width height given lens) given lens) ≡ true
    → (outcome width height given lens lent).answer ≡ Ok (site_of width height (grid_of width height given lens) given lens)
unfolding outcome outcome_by plan_of plan_by
built_when width height given lens lent a b c d e = rw (a, b, c, d, e)
