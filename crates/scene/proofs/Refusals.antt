-- WHEN A QUESTION IS REFUSED, AND AS WHAT: the status of each call is n if and only if document 01's row of n says so, in document 01's order of checks, 6, 1, 7, 8; what
-- passes them all is answered, with status 0. "Sound tables" is the record `Sound` of crate `site`, line for line document 01's paragraph. A call that is given no
-- number cannot be refused as 1, one that is lent no marks not as 7, and so on: its checks do not have these numbers. Document 01, "Refusal numbers" and "Domain".
-- Assumes nothing.
use Rattle.std.proofs.Common.{Err}
use Prim.Native.Nat.{ℕ, ◌≤◌, ◌<◌}
use mathlib.Core.Path.{◌≡◌, refl}
use mathlib.Core.Bool.{Bool, true, false, cond}
use mathlib.Core.List.{List}
use native.Mathlib.Omega.{arith}
use lib.Dec.{ltb}
use lib.ListN.{length}
use lib.Ieee.{Float}
use borrow.Author.Tests.{ltb-true, ltb-false, lt-ltb, le-ltb}
use Rattle.geom.specs.declared.Vec2.{Vec2}
use Rattle.geom.specs.declared.Aabb.{Aabb}
use Rattle.grid.specs.Query.{Outcome, found_of}
use Rattle.grid.proofs.Found.{found_eight}
use Rattle.site.specs.declared.Site.{Site}
use Rattle.site.specs.Tables.{Tables}
use Rattle.site.specs.Domain.{point_in_domain, box_in_domain, load_box_of}
use Rattle.site.specs.Soundness.{sound_of, Sound}
use Rattle.site.specs.Checks.{Checks, passed, check, Exactly, is_new}
use Rattle.site.proofs.SoundLaws.{sound, tested}
use Rattle.site.proofs.Checks.{all_passed, by_true, by_false, either}
use Rattle.scene.specs.Asked.{asked, ray_in_domain}
use Rattle.scene.specs.Answers.{width_of, height_of, bounds_of, dims_of, polygon_of, polygon_vertices_number_of, edge_of, edge_end_of, edge_owner_of, items_at_number_of, polygon_at_of, cast_ray_of}
use Rattle.scene.specs.Stamping.{NewOutcome, new_kept, new_stamps_of, kept, polygons_near_of}
use Rattle.refusal.specs.declared.Refusal.{Refusal}
use Rattle.refusal.specs.declared.Refusal.TheVariants.{OutsideDomain, Unsound}
use Rattle.refusal.specs.Numbers.{number_of, status_of}

-- ---- THE LAW. Whatever is answered with a status that carries a refusal's number: 6, then 1, and then as the answer itself
module _ {A : Type 0} (status : A → ℕ) (refuse : Refusal → A) (carries : (r : Refusal) → status (refuse r) ≡ number_of r) (site : Site) (t : Tables) where
  -- nothing is given that could lie outside the domain
  pub given_nothing : (a : A) (later : Checks) → is_new 6 later ≡ true → Exactly later (status a)
      → Exactly (check 6 (Sound site t) later) (status (asked refuse site t true a))
  unfolding asked
  given_nothing a later new x =
      rw (either status (sound_of site t), carries)
      (by_true 6 (Sound site t) later (status a) (sound_of site t) new (sound site t) (tested site t) (λ s. x))

  -- what is given is inside the domain, or not
  pub given_numbers : (inside : Bool) (Inside : Type 0) → (inside ≡ true → Inside) → (Inside → inside ≡ true)
      → (a : A) (later : Checks) → is_new 6 (check 1 Inside later) ≡ true → is_new 1 later ≡ true → Exactly later (status a)
      → Exactly (check 6 (Sound site t) (check 1 Inside later)) (status (asked refuse site t inside a))
  unfolding asked
  given_numbers inside Inside y z a later new_6 new_1 x =
      rw (either status (sound_of site t), either status inside, carries OutsideDomain, carries Unsound)
      (by_true 6 (Sound site t) (check 1 Inside later) _ (sound_of site t) new_6 (sound site t) (tested site t)
      (λ s. by_true 1 Inside later (status a) inside new_1 y z (λ i. x)))

  -- status 0 is the answer itself, never a refusal that carries 0
  zero_by : (s i : Bool) (a : A) → status (cond s (cond i a (refuse OutsideDomain)) (refuse Unsound)) ≡ 0 → cond s (cond i a (refuse OutsideDomain)) (refuse Unsound) ≡ a
  zero_by true true a e = refl
  zero_by true false a e = absurd (omega (arith, e, carries OutsideDomain))
  zero_by false i a e = absurd (omega (arith, e, carries Unsound))

  pub zero_answered : (inside : Bool) (a : A) → status (asked refuse site t inside a) ≡ 0 → asked refuse site t inside a ≡ a
  unfolding asked
  zero_answered inside a e = zero_by (sound_of site t) inside a e

  -- an id or an edge is asked for below its count
  below : (i n : ℕ) (a : A) → status a ≡ 0 → Exactly (check 6 (Sound site t) (check 1 (i < n) passed)) (status (asked refuse site t (ltb i n) a))
  below i n a e = given_numbers (ltb i n) (i < n) (ltb-true i n) (lt-ltb i n) a passed refl refl (rw e all_passed)

  -- a point, or a ray, is tested
  tests : (inside : Bool) (a : A) → status a ≡ 0 → Exactly (check 6 (Sound site t) (check 1 (inside ≡ true) passed)) (status (asked refuse site t inside a))
  tests inside a e = given_numbers inside (inside ≡ true) (λ i. i) (λ i. i) a passed refl refl (rw e all_passed)

-- ---- EACH CALL
module _ (site : Site) (t : Tables) where
  -- the head
  pub width_exactly : Exactly (check 6 (Sound site t) passed) (status_of (width_of site t))
  unfolding width_of
  width_exactly = given_nothing status_of Err (λ n. refl) site t _ passed refl all_passed

  pub height_exactly : Exactly (check 6 (Sound site t) passed) (status_of (height_of site t))
  unfolding height_of
  height_exactly = given_nothing status_of Err (λ n. refl) site t _ passed refl all_passed

  pub bounds_exactly : Exactly (check 6 (Sound site t) passed) (status_of (bounds_of site t))
  unfolding bounds_of
  bounds_exactly = given_nothing status_of Err (λ n. refl) site t _ passed refl all_passed

  pub dims_exactly : Exactly (check 6 (Sound site t) passed) (status_of (dims_of site t))
  unfolding dims_of
  dims_exactly = given_nothing status_of Err (λ n. refl) site t _ passed refl all_passed

  -- polygons: "an id .. asked for below its count"
  pub polygon_exactly : (id : ℕ) → Exactly (check 6 (Sound site t) (check 1 (id < site.polygons) passed)) (status_of (polygon_of site t id))
  unfolding polygon_of
  polygon_exactly id = below status_of Err (λ n. refl) site t id site.polygons _ refl

  -- the number of a polygon's points, which gives the refusal of `polygon_vertices` too
  pub polygon_vertices_exactly : (id : ℕ) → Exactly (check 6 (Sound site t) (check 1 (id < site.polygons) passed)) (status_of (polygon_vertices_number_of site t id))
  unfolding polygon_vertices_number_of
  polygon_vertices_exactly id = below status_of Err (λ n. refl) site t id site.polygons _ refl

  -- edges: "an .. edge asked for below its count"
  pub edge_exactly : (edge : ℕ) → Exactly (check 6 (Sound site t) (check 1 (edge < site.points) passed)) (status_of (edge_of site t edge))
  unfolding edge_of
  edge_exactly edge = below status_of Err (λ n. refl) site t edge site.points _ refl

  pub edge_end_exactly : (edge : ℕ) → Exactly (check 6 (Sound site t) (check 1 (edge < site.points) passed)) (status_of (edge_end_of site t edge))
  unfolding edge_end_of
  edge_end_exactly edge = below status_of Err (λ n. refl) site t edge site.points _ refl

  pub edge_owner_exactly : (edge : ℕ) → Exactly (check 6 (Sound site t) (check 1 (edge < site.points) passed)) (status_of (edge_owner_of site t edge))
  unfolding edge_owner_of
  edge_owner_exactly edge = below status_of Err (λ n. refl) site t edge site.points _ refl

  -- a point: the number of its cell's items, which gives the refusal of `items_at` too
  pub items_at_exactly : (p : Vec2) → Exactly (check 6 (Sound site t) (check 1 (point_in_domain p ≡ true) passed)) (status_of (items_at_number_of site t p))
  unfolding items_at_number_of
  items_at_exactly p = tests status_of Err (λ n. refl) site t (point_in_domain p) _ refl

  pub polygon_at_exactly : (p : Vec2) → Exactly (check 6 (Sound site t) (check 1 (point_in_domain p ≡ true) passed)) (status_of (polygon_at_of site t p))
  unfolding polygon_at_of
  polygon_at_exactly p = tests status_of Err (λ n. refl) site t (point_in_domain p) _ refl

  -- a ray
  pub cast_ray_exactly
      : (o d : Vec2) (len : Float) (mode : ℕ) → Exactly (check 6 (Sound site t) (check 1 (ray_in_domain o d len mode ≡ true) passed)) (status_of (cast_ray_of site t o d len mode))
  unfolding cast_ray_of
  cast_ray_exactly o d len mode = tests status_of Err (λ n. refl) site t (ray_in_domain o d len mode) _ refl

  -- ---- THE CALLS THAT WRITE. 7: "fewer stamps than polygons"
  pub new_stamps_exactly : (m : List ℕ) (e : ℕ) → Exactly (check 6 (Sound site t) (check 7 (site.polygons ≤ length m) passed)) (status_of (new_stamps_of site t m e).answer)
  unfolding new_stamps_of
  new_stamps_exactly m e =
      given_nothing (λ (o : NewOutcome). status_of o.answer) (new_kept m e) (λ n. refl) site t _ (check 7 (site.polygons ≤ length m) passed) refl
      (rw (either (λ (o : NewOutcome). status_of o.answer) (ltb (length m) site.polygons))
      (by_false 7 (site.polygons ≤ length m) passed 0 (ltb (length m) site.polygons) refl (ltb-false _ _) (le-ltb _ _) (λ h. all_passed)))

  -- 8: "an .. output list would pass its .. entries": more ids are found than the list has room for
  pub polygons_near_exactly : (b : Aabb) (m : List ℕ) (e : ℕ) (ids : List ℕ)
      → Exactly (check 6 (Sound site t)
      (check 1 (box_in_domain b ≡ true)
      (check 7 (site.polygons ≤ length m)
      (check 8 (length (found_of site.grid (load_box_of b) t.starts t.items m e) ≤ length ids) passed))))
      (status_of (polygons_near_of site t b m e ids).answer)
  unfolding polygons_near_of
  polygons_near_exactly b m e ids =
      let found = found_of site.grid (load_box_of b) t.starts t.items m e in
      let room = check 8 (length found ≤ length ids) passed in
      given_numbers (λ (o : Outcome). status_of o.answer) (kept m e ids) (λ n. refl) site t (box_in_domain b) (box_in_domain b ≡ true) (λ i. i) (λ i. i) _
      (check 7 (site.polygons ≤ length m) room) refl refl
      (rw (either (λ (o : Outcome). status_of o.answer) (ltb (length m) site.polygons))
      (by_false 7 (site.polygons ≤ length m) room _ (ltb (length m) site.polygons) refl (ltb-false _ _) (le-ltb _ _)
      (λ h. rw (found_eight site.grid t.starts t.items m e (length ids) (load_box_of b))
      (by_false 8 (length found ≤ length ids) passed 0 (ltb (length ids) (length found)) refl (ltb-false _ _) (le-ltb _ _) (λ k. all_passed)))))
