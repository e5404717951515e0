-- The ways through the functions of `near`, over plain variables. Assumes nothing.
use Rattle.std.proofs.Common.{None, Option, Some, Err, Result}
use mathlib.Core.Path.{◌≡◌, refl, sym, ap, ◌∙◌, subst}
use mathlib.Core.Bool.{true, false}
use mathlib.Core.List.{List}
use Prim.Native.Nat.{ℕ, ◌+◌, ◌≤◌, ◌<◌, min, max}
use native.Mathlib.Omega.{arith}
use lib.ListN.{length, take, replicate, length-take}
use lib.Seq.{take_all}
use lib.Ieee.{Float}
use borrow.Author.Tests.{le-ltb}
use Rattle.lists.proofs.Zeros.{padded_nil}
use Rattle.geom.specs.declared.Aabb.{Aabb}
use Rattle.grid.specs.declared.CellRange.{CellRange}
use Rattle.grid.specs.declared.Grid.{Grid}
use Rattle.grid.specs.declared.Listing.{Listing}
use Rattle.grid.specs.Range.{range_of}
use Rattle.tables.specs.Tables.{Limits}
use Rattle.tables.proofs.Cells.{range_of_lem}
use Rattle.site.specs.declared.Site.{Site}
use Rattle.site.specs.Tables.{box_of}
use Rattle.site.specs.Domain.{box_in_domain, load_box_of}
use Rattle.site.specs.Soundness.{sound_plain}
use Rattle.site.proofs.PlainLaws.{plain}
use Rattle.build.specs.Outcome.{span_at}
use Rattle.near.specs.declared.Gathered.{Gathered}
use Rattle.near.specs.Shared.{meet, near_of}
use Rattle.near.specs.Outcome.{Is, outcome_in, query_of, plain_of}
use Rattle.near.specs.Keys.{ids_of, Askable, SmallIn, GathersOne}
use Rattle.near.proofs.Gathering.{no_front, area_small, small_in, Gathering, gather_next}
use Rattle.refusal.specs.declared.Refusal.{Refusal}
use Rattle.refusal.specs.declared.Refusal.TheVariants.{OutsideDomain, Unsound}
use Rattle.grid.specs.Query.{counted}

-- ---- `cells_shared`
pub met : (s : (Option CellRange)) (p q : CellRange) (a b c d : ℕ) → s ≡ Some p → a ≡ max p.c0 q.c0 → b ≡ max p.r0 q.r0 → c ≡ min p.c1 q.c1 → d ≡ min p.r1 q.r1
    → Some (record { c0 = a; r0 = b; c1 = c; r1 = d }) ≡ meet s q
met s p q a b c d e h i j k = rw (e, h, i, j, k)

-- ---- `gather`
module _ (g : Grid) (q : CellRange) (n : ℕ) (a : Askable g q n) where
  pub small_at : (s p : (Option CellRange)) (b : Aabb) → p ≡ range_of g b → s ≡ meet p q → SmallIn g.cols s
  small_at s p b f e = rw e (small_in g q n a p (λ r is. range_of_lem g b r a.limits (sym f ∙ is)))

  pub gather_step : (points : List Float) (polygons : List ℕ) (t u : Gathered) (keys keys' : List ℕ) (id : ℕ) (s p : (Option CellRange)) (b : Aabb) → Gathering (span_at g points polygons) g.cols q n t keys id → id < n
      → b ≡ box_of points polygons id → p ≡ range_of g b → s ≡ meet p q → GathersOne g.cols s id t keys u keys' → Gathering (span_at g points polygons) g.cols q n u keys' (id + 1)
  gather_step points polygons t u keys keys' id s p b w h eb ep es o =
      gather_next (span_at g points polygons) g.cols q n t u keys keys' id w h (area_small g q n a (span_at g points polygons id))
      (subst (λ (r : (Option CellRange)). GathersOne g.cols r id t keys u keys') (es ∙ ap (λ (r : (Option CellRange)). meet r q) span) o)
    where
      span : p ≡ span_at g points polygons id
      span = unfold span_at in ep ∙ ap (range_of g) eb

-- ---- `write_ids`
pub write_none : (keys ids : List ℕ) → take 0 ids ≡ ids_of (take 0 keys)
write_none keys ids = no_front ids ∙ sym (ap ids_of (no_front keys))

pub write_done : (keys ids : List ℕ) (i n : ℕ) → i ≡ n → take i ids ≡ ids_of (take i (take n keys)) → take n ids ≡ ids_of (take n keys)
write_done keys ids i n z e =
    let short : length (take n keys) ≤ n = omega (arith, length-take n keys) in
    rw (z, take_all n (take n keys) short) at e

-- ---- `box_query`
module _ (g : Grid) (points : List Float) (polygons : List ℕ) (n : ℕ) (b : Aabb) (k : ℕ) where
  pub no_range : (ids : List ℕ) → range_of g b ≡ None → ids ≡ replicate k 0 → Is (query_of g points polygons n b k) (counted 0 0) ids
  unfolding query_of near_of
  no_range ids e f = rw (e, le-ltb k 0 (omega arith)) (record { answer_is = refl; ids_are = f ∙ sym (padded_nil {A = ℕ} 0 k) })

  pub with_range : (q : CellRange) (r : (Result Listing Refusal)) (ids : List ℕ) → range_of g b ≡ Some q → Is (outcome_in (span_at g points polygons) n g.cols (Some q) k) r ids → Is (query_of g points polygons n b k) r ids
  unfolding query_of
  with_range q r ids e h = rw e h

-- ---- `polygons_near_plain`
-- what the queries need of the test
pub plain_gives : (s : Site) (points : List Float) (polygons : List ℕ) → sound_plain s points polygons ≡ true → Limits s.grid × (s.polygons ≤ 4096)
plain_gives s points polygons e =
    let h = plain s points polygons e in
    (record { has_cols = h.has_cols; has_rows = h.has_rows; small = h.few_cells }, h.few_polygons)

module _ (site : Site) (points : List Float) (polygons : List ℕ) (b : Aabb) (ids : List ℕ) where
  pub unsound : sound_plain site points polygons ≡ false → Is (plain_of site points polygons b ids) (Err Unsound) ids
  unfolding plain_of
  unsound e = rw e (record { answer_is = refl; ids_are = refl })

  pub outside : sound_plain site points polygons ≡ true → box_in_domain b ≡ false → Is (plain_of site points polygons b ids) (Err OutsideDomain) ids
  unfolding plain_of
  outside e f = rw (e, f) (record { answer_is = refl; ids_are = refl })

  pub asked : (c : Aabb) (r : (Result Listing Refusal)) (ids' : List ℕ) → sound_plain site points polygons ≡ true → box_in_domain b ≡ true → c ≡ load_box_of b
      → Is (query_of site.grid points polygons site.polygons c (length ids)) r ids' → Is (plain_of site points polygons b ids) r ids'
  unfolding plain_of
  asked c r ids' e f h i = rw (e, f, ← h) i
