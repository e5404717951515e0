-- THE CALLS THAT HAND BACK A PART of a table, and the calls beside them that give the number: where the number is refused the part is empty, and where it is answered
-- the part has as many entries. When the number is refused: `polygon_vertices_exactly` and `items_at_exactly` of Refusals.antt. Assumes nothing.
use Prim.Native.Nat.{ℕ, ◌*◌}
use mathlib.Core.Path.{◌≡◌, refl}
use mathlib.Core.Bool.{Bool, true, false, cond}
use mathlib.Core.List.{List, []}
use native.Mathlib.Omega.{arith}
use lib.Dec.{ltb}
use lib.ListN.{length}
use borrow.Author.Tests.{ltb-true}
use Rattle.geom.specs.declared.Vec2.{Vec2}
use Rattle.site.specs.declared.Site.{Site}
use Rattle.site.specs.Tables.{Tables, point_stride, len_of, verts_of}
use Rattle.site.specs.Domain.{point_in_domain}
use Rattle.site.specs.Soundness.{sound_of}
use Rattle.site.proofs.SoundLaws.{sound, verts_length}
use Rattle.scene.specs.Asked.{asked}
use Rattle.scene.specs.Answers.{polygon_vertices_of, polygon_vertices_number_of, items_at_of, items_at_number_of}
use Rattle.scene.specs.Numbers.{number_value}
use Rattle.refusal.specs.declared.Refusal.{Refusal}
use Rattle.refusal.specs.declared.Refusal.TheVariants.{OutsideDomain, Unsound}
use Rattle.refusal.specs.Numbers.{status_of}
use Rattle.std.proofs.Common.{Result, Ok, Err}

-- a part of entries that take so many numbers each, and the answer that counts them
pub record PartOf {A : Type 0} (stride : ℕ) (number : Result ℕ Refusal) (part : List A) : Type 0 where
  -- "empty on refusal", ..
  pub refused_empty : (status_of number ≡ 0 → ⊥) → part ≡ []
  -- .. and otherwise as many entries as the number says
  pub answered_long : status_of number ≡ 0 → length part ≡ stride * number_value number

part_by : {A : Type 0} (stride n : ℕ) (l : List A) (s i : Bool) → (s ≡ true → i ≡ true → length l ≡ stride * n)
    → PartOf stride (cond s (cond i (Ok n) (Err OutsideDomain)) (Err Unsound)) (cond s (cond i l []) [])
part_by stride n l true true h = record { refused_empty = λ f. absurd (f refl); answered_long = λ z. h refl refl }
part_by stride n l true false h = record { refused_empty = λ f. refl; answered_long = λ z. absurd (omega (arith, z)) }
part_by stride n l false i h = record { refused_empty = λ f. refl; answered_long = λ z. absurd (omega (arith, z)) }

pub vertices_number : (site : Site) (t : Tables) (id : ℕ) → PartOf point_stride (polygon_vertices_number_of site t id) (polygon_vertices_of site t id)
unfolding polygon_vertices_number_of polygon_vertices_of asked
vertices_number site t id =
    part_by point_stride (len_of t.polygons id) (verts_of t.points t.polygons id) (sound_of site t) (ltb id site.polygons)
    (λ s i. verts_length (sound site t s) id (ltb-true id site.polygons i))

pub items_number : (site : Site) (t : Tables) (p : Vec2) → PartOf 1 (items_at_number_of site t p) (items_at_of site t p)
unfolding items_at_number_of items_at_of asked
items_number site t p = part_by 1 _ _ (sound_of site t) (point_in_domain p) (λ s i. omega arith)
