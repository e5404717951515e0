-- WHEN THE CALL IS REFUSED, AND AS WHAT: its status is n if and only if the row of n says so, in the order 6, 1, 8 (`plain_exactly`). It has no check 7, there being no stamps.
-- What a refusal leaves (`left`): refused as 6 or 1 the list is as it was, refused as 8 it is all zero. Document 02, Q-6; document 01, "Refusal numbers". Assumes nothing.
use Rattle.std.proofs.Common.{Err}
use mathlib.Core.Path.{◌≡◌, refl}
use mathlib.Core.Bool.{Bool, true, false, cond}
use mathlib.Core.List.{List}
use Prim.Native.Nat.{ℕ, ◌≤◌}
use lib.Dec.{ltb, eqb}
use lib.ListN.{length, replicate}
use lib.Ieee.{Float}
use borrow.Author.Tests.{ltb-false, le-ltb}
use Rattle.lists.specs.Parts.{padded}
use Rattle.geom.specs.declared.Aabb.{Aabb}
use Rattle.site.specs.declared.Site.{Site}
use Rattle.site.specs.Domain.{box_in_domain, load_box_of}
use Rattle.site.specs.Soundness.{sound_plain, SoundPlain}
use Rattle.site.specs.Checks.{passed, check, Exactly}
use Rattle.site.proofs.Checks.{all_passed, by_true, by_false, either}
use Rattle.site.proofs.PlainLaws.{plain, plain_tested}
use Rattle.near.specs.Outcome.{Outcome, kept, found_near, entries_held, query_of, plain_of}
use Rattle.refusal.specs.declared.Refusal.TheVariants.{NoListRoom, OutsideDomain, Unsound}
use Rattle.grid.specs.Query.{counted}
use Rattle.refusal.specs.Numbers.{number_of, status_of}
use Rattle.refusal.specs.declared.Refusal.{Refusal}

left_by : (s i l : Bool) (ids found : List ℕ) (count : ℕ) (n : Refusal)
    → (cond s (cond i (record { answer = cond l (Err NoListRoom) (counted (length found) count); ids = cond l (replicate (length ids) 0) (padded 0 (length ids) found) }) (kept ids OutsideDomain)) (kept ids Unsound)).answer ≡ Err n
    → (cond s (cond i (record { answer = cond l (Err NoListRoom) (counted (length found) count); ids = cond l (replicate (length ids) 0) (padded 0 (length ids) found) }) (kept ids OutsideDomain)) (kept ids Unsound)).ids
    ≡ cond (eqb (number_of n) 8) (replicate (length ids) 0) ids
left_by true true true ids found count n e = let z : n ≡ NoListRoom = cc in rw z
left_by true true false ids found count n e = cc
left_by true false l ids found count n e = let z : n ≡ OutsideDomain = cc in rw z
left_by false i l ids found count n e = let z : n ≡ Unsound = cc in rw z

module _ (site : Site) (points : List Float) (polygons : List ℕ) (b : Aabb) (ids : List ℕ) where
  pub plain_exactly : Exactly (check 6 (SoundPlain site points polygons)
      (check 1 (box_in_domain b ≡ true)
      (check 8 (length (found_near site.grid points polygons site.polygons (load_box_of b)) ≤ length ids) passed)))
      (status_of (plain_of site points polygons b ids).answer)
  unfolding plain_of query_of
  plain_exactly =
      let found = found_near site.grid points polygons site.polygons (load_box_of b) in
      let room = check 8 (length found ≤ length ids) passed in
      rw (
        either (λ (o : Outcome). status_of o.answer) (sound_plain site points polygons),
        either (λ (o : Outcome). status_of o.answer) (box_in_domain b),
        either status_of (ltb (length ids) (length found)),
      )
      (by_true 6 (SoundPlain site points polygons) (check 1 (box_in_domain b ≡ true) room) _ (sound_plain site points polygons) refl (plain site points polygons) (plain_tested site points polygons)
      (λ s. by_true 1 (box_in_domain b ≡ true) room _ (box_in_domain b) refl (λ i. i) (λ i. i)
      (λ i. by_false 8 (length found ≤ length ids) passed 0 (ltb (length ids) (length found)) refl (ltb-false _ _) (le-ltb _ _) (λ k. all_passed))))

  pub left : (n : Refusal) → (plain_of site points polygons b ids).answer ≡ Err n → (plain_of site points polygons b ids).ids ≡ cond (eqb (number_of n) 8) (replicate (length ids) 0) ids
  unfolding plain_of query_of
  left n e =
      let found = found_near site.grid points polygons site.polygons (load_box_of b) in
      left_by (sound_plain site points polygons) (box_in_domain b) (ltb (length ids) (length found)) ids found
      (entries_held site.grid points polygons site.polygons (load_box_of b)) n e
