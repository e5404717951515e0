-- The ways through the calls that write: refused, and nothing is written; or what the grid's call leaves. Assumes nothing.
use Rattle.std.proofs.Common.{Result, Ok, Err}
use Prim.Native.Nat.{ℕ, ◌≤◌, ◌<◌}
use mathlib.Core.Path.{◌≡◌, refl}
use mathlib.Core.Bool.{true}
use mathlib.Core.List.{List}
use lib.ListN.{length, replicate}
use borrow.Author.Tests.{lt-ltb, le-ltb}
use Rattle.geom.specs.declared.Aabb.{Aabb}
use Rattle.grid.specs.declared.Listing.{Listing}
use Rattle.grid.specs.Query.{Is, outcome}
use Rattle.site.specs.declared.Site.{Site}
use Rattle.site.specs.Tables.{Tables}
use Rattle.site.specs.Domain.{box_in_domain, load_box_of}
use Rattle.scene.specs.Asked.{admit_of}
use Rattle.scene.specs.Stamping.{NewIs, new_kept, new_stamps_of, kept, polygons_near_of}
use Rattle.scene.proofs.Asking.{refused, admitted}
use Rattle.refusal.specs.declared.Refusal.{Refusal}
use Rattle.refusal.specs.declared.Refusal.TheVariants.{FewStamps}

-- ---- `polygons_near`
module _ (site : Site) (t : Tables) (b : Aabb) (m : List ℕ) (e : ℕ) (ids : List ℕ) (r : Result (Unit {0}) Refusal) (is : r ≡ admit_of site t (box_in_domain b)) where
  kept_is : (k : Refusal) → kept m e ids k ≡ polygons_near_of site t b m e ids → Is (polygons_near_of site t b m e ids) (Err k) m e ids
  kept_is k h = rw (← h) (record { answer_is = refl; marks_are = refl; epoch_is = refl; ids_are = refl })

  near_kept : (n : Refusal) → r ≡ Err n → kept m e ids n ≡ polygons_near_of site t b m e ids
  unfolding polygons_near_of
  near_kept n h = refused site t (box_in_domain b) (kept m e ids) _ is h

  -- as 6 or 1
  pub near_refused : (n : Refusal) → r ≡ Err n → Is (polygons_near_of site t b m e ids) (Err n) m e ids
  near_refused n h = kept_is n (near_kept n h)

  near_short : r ≡ Ok tt → length m < site.polygons → kept m e ids FewStamps ≡ polygons_near_of site t b m e ids
  unfolding polygons_near_of
  near_short z h = admitted site t (box_in_domain b) (kept m e ids) _ is z (rw (lt-ltb _ _ h))

  -- as 7
  pub near_seven : r ≡ Ok tt → length m < site.polygons → Is (polygons_near_of site t b m e ids) (Err FewStamps) m e ids
  near_seven z h = kept_is FewStamps (near_short z h)

  near_long : r ≡ Ok tt → site.polygons ≤ length m → outcome site.grid (load_box_of b) t.starts t.items m e (length ids) ≡ polygons_near_of site t b m e ids
  unfolding polygons_near_of
  near_long z h = admitted site t (box_in_domain b) (kept m e ids) _ is z (rw (le-ltb _ _ h))

  -- what the query leaves
  pub near_asked
      : r ≡ Ok tt → site.polygons ≤ length m → (b' : Aabb) → b' ≡ load_box_of b → (a : (Result Listing Refusal)) (m' : List ℕ) (e' : ℕ) (ids' : List ℕ)
      → Is (outcome site.grid b' t.starts t.items m e (length ids)) a m' e' ids' → Is (polygons_near_of site t b m e ids) a m' e' ids'
  near_asked z h b' f a m' e' ids' i = rw (← near_long z h, ← f) i

-- ---- `new_stamps`
module _ (site : Site) (t : Tables) (m : List ℕ) (e : ℕ) (r : Result (Unit {0}) Refusal) (is : r ≡ admit_of site t true) where
  new_is : (k : Refusal) → new_kept m e k ≡ new_stamps_of site t m e → NewIs (new_stamps_of site t m e) (Err k) m e
  new_is k h = rw (← h) (record { answer_is = refl; marks_are = refl; epoch_is = refl })

  new_kept_lem : (n : Refusal) → r ≡ Err n → new_kept m e n ≡ new_stamps_of site t m e
  unfolding new_stamps_of
  new_kept_lem n h = refused site t true (new_kept m e) _ is h

  pub new_refused : (n : Refusal) → r ≡ Err n → NewIs (new_stamps_of site t m e) (Err n) m e
  new_refused n h = new_is n (new_kept_lem n h)

  new_short : r ≡ Ok tt → length m < site.polygons → new_kept m e FewStamps ≡ new_stamps_of site t m e
  unfolding new_stamps_of
  new_short z h = admitted site t true (new_kept m e) _ is z (rw (lt-ltb _ _ h))

  pub new_seven : r ≡ Ok tt → length m < site.polygons → NewIs (new_stamps_of site t m e) (Err FewStamps) m e
  new_seven z h = new_is FewStamps (new_short z h)

  new_long : r ≡ Ok tt → site.polygons ≤ length m → record { answer = Ok tt; marks = replicate (length m) 0; epoch = 0 } ≡ new_stamps_of site t m e
  unfolding new_stamps_of
  new_long z h = admitted site t true (new_kept m e) _ is z (rw (le-ltb _ _ h))

  pub new_made : r ≡ Ok tt → site.polygons ≤ length m → (m' : List ℕ) (e' : ℕ) → e' ≡ 0 → m' ≡ replicate (length m) 0 → NewIs (new_stamps_of site t m e) (Ok tt) m' e'
  new_made z h m' e' f g = rw (← new_long z h) (record { answer_is = refl; marks_are = g; epoch_is = f })
