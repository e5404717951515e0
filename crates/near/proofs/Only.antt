-- NO SECOND OUTCOME FITS: what is promised of one input leaves one answer and one content of the list of ids. Assumes nothing.
use Rattle.std.proofs.Common.{Result}
use mathlib.Core.Path.{◌≡◌, sym, ◌∙◌}
use mathlib.Core.List.{List}
use Prim.Native.Nat.{ℕ}
use lib.Ieee.{Float}
use Rattle.geom.specs.declared.Aabb.{Aabb}
use Rattle.grid.specs.declared.Listing.{Listing}
use Rattle.site.specs.declared.Site.{Site}
use Rattle.near.specs.Outcome.{Is, plain_of}
use Rattle.refusal.specs.declared.Refusal.{Refusal}

pub only : (site : Site) (points : List Float) (polygons : List ℕ) (b : Aabb) (ids : List ℕ) (r q : (Result Listing Refusal)) (left other : List ℕ)
    → Is (plain_of site points polygons b ids) r left → Is (plain_of site points polygons b ids) q other → (r ≡ q) × (left ≡ other)
only site points polygons b ids r q left other h k = (h.answer_is ∙ sym k.answer_is, h.ids_are ∙ sym k.ids_are)
