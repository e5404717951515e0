-- NO SECOND OUTCOME FITS: what is promised of one input leaves one answer and one content of every lent cell. Assumes nothing.
use Rattle.std.proofs.Common.{Result}
use mathlib.Core.Path.{◌≡◌, sym, ◌∙◌}
use mathlib.Core.List.{List}
use Prim.Native.Nat.{ℕ}
use lib.Ieee.{Float}
use Rattle.site.specs.Tables.{Tables}
use Rattle.build.specs.Outcome.{outcome, Does}
use Rattle.refusal.specs.declared.Refusal.{Refusal}
use Rattle.site.specs.declared.Site.{Site}

pub only : (width height : Float) (given : List Float) (lens : List ℕ) (lent : Tables) (r q : (Result Site Refusal)) (left other : Tables)
    → Does (outcome width height given lens lent) r left → Does (outcome width height given lens lent) q other → (r ≡ q) × (left ≡ other)
only width height given lens lent r q left other a b = (a.says ∙ sym b.says, a.leaves ∙ sym b.leaves)
