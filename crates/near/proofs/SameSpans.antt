-- Of a site that building made, each polygon's range by the table of boxes is the one by its points; and where ranges are the same, lists and counts are. Assumes nothing.
use Rattle.std.proofs.Common.{None, Option, Some, Ok}
use mathlib.Core.Path.{◌≡◌, refl, sym, ap, subst}
use mathlib.Core.List.{List}
use Prim.Native.Nat.{ℕ, suc, ◌+◌, ◌-◌, ◌*◌, ◌<◌}
use native.Mathlib.Nat.{le_trans, le_of_eq}
use native.Mathlib.Omega.{arith}
use lib.ListN.{length}
use lib.Ieee.{Float}
use Rattle.lists.specs.Lists.{counting, joined, sum_to}
use Rattle.lists.specs.Parts.{padded}
use Rattle.lists.proofs.Counting.{all_counting, filter_ext}
use Rattle.lists.proofs.Joined.{joined_ext}
use Rattle.lists.proofs.Sums.{sum_to_ext}
use Rattle.num.specs.Ops.{zero_f}
use Rattle.grid.specs.declared.Grid.{Grid}
use Rattle.tables.specs.Tables.{span_of, covers, cell_items, held_in}
use Rattle.site.specs.declared.Site.{Site}
use Rattle.site.specs.Tables.{Tables, box_of}
use Rattle.build.specs.Stored.{box_numbers}
use Rattle.build.specs.Refusals.{Counted}
use Rattle.build.specs.Outcome.{plan_of, tables_of, rooms_of, outcome, Does, span_at}
use Rattle.build.proofs.Spans.{fill_span}
use Rattle.build.proofs.Laid.{boxes_right}
use Rattle.build.proofs.Deciding.{going}
use Rattle.build.proofs.Making.{polygons_of}
use Rattle.build.proofs.BuiltSound.{plan_of_lem}
use Rattle.near.specs.Shared.{meet, is_first, first_here, near_of}
use Rattle.near.specs.Outcome.{outcome_in}
use Rattle.grid.specs.declared.CellRange.{CellRange}

-- ---- the same ranges, the same list and count
module _ (p q : ℕ → (Option CellRange)) (n cols : ℕ) (same : (k : ℕ) → k < n → p k ≡ q k) where
  near_ext : (r : (Option CellRange)) → near_of p n r ≡ near_of q n r
  unfolding near_of
  near_ext None = refl
  near_ext (Some r) =
      joined_ext (λ j. joined (λ i. first_here p n r (r.r0 + j) (r.c0 + i)) (suc r.c1 - r.c0)) (λ j. joined (λ i. first_here q n r (r.r0 + j) (r.c0 + i)) (suc r.c1 - r.c0)) (suc r.r1 - r.r0)
      (λ j h. joined_ext (λ i. first_here p n r (r.r0 + j) (r.c0 + i)) (λ i. first_here q n r (r.r0 + j) (r.c0 + i)) (suc r.c1 - r.c0)
      (λ i l. filter_ext (λ id. is_first (meet (p id) r) (r.r0 + j) (r.c0 + i)) (λ id. is_first (meet (q id) r) (r.r0 + j) (r.c0 + i)) (counting 0 n)
      (all_counting _ 0 n (λ k g m. ap (λ (s : (Option CellRange)). is_first (meet s r) (r.r0 + j) (r.c0 + i)) (same k (omega arith))))))

  pub held_ext : (r : (Option CellRange)) → held_in p n cols r ≡ held_in q n cols r
  held_ext None = refl
  held_ext (Some r) =
      sum_to_ext (λ j. sum_to (λ i. length (cell_items p n cols ((r.r0 + j) * cols + r.c0 + i))) (suc r.c1 - r.c0)) (λ j. sum_to (λ i. length (cell_items q n cols ((r.r0 + j) * cols + r.c0 + i))) (suc r.c1 - r.c0)) (suc r.r1 - r.r0)
      (λ j h. sum_to_ext (λ i. length (cell_items p n cols ((r.r0 + j) * cols + r.c0 + i))) (λ i. length (cell_items q n cols ((r.r0 + j) * cols + r.c0 + i))) (suc r.c1 - r.c0)
      (λ i l. ap length (filter_ext (λ id. covers cols (p id) ((r.r0 + j) * cols + r.c0 + i)) (λ id. covers cols (q id) ((r.r0 + j) * cols + r.c0 + i)) (counting 0 n)
      (all_counting _ 0 n (λ k g m. ap (λ (s : (Option CellRange)). covers cols s ((r.r0 + j) * cols + r.c0 + i)) (same k (omega arith)))))))

  pub outcome_ext : (r : (Option CellRange)) (k : ℕ) → outcome_in p n cols r k ≡ outcome_in q n cols r k
  outcome_ext r k = rw (near_ext r, held_ext r)

-- ---- the boxes that building writes are those of the points that it writes
boxes_are : (g : Grid) (given : List Float) (lens : List ℕ) (lent : Tables) → Counted given lens
    → (tables_of g given lens lent).boxes ≡ padded zero_f (length lent.boxes) (joined (λ k. box_numbers (box_of (tables_of g given lens lent).points (tables_of g given lens lent).polygons k)) (length lens))
unfolding tables_of
boxes_are g given lens lent c = ap (padded zero_f (length lent.boxes)) (sym (boxes_right given lens c (length lent.points) (length lent.polygons)))

pub same_spans : (width height : Float) (given : List Float) (lens : List ℕ) (lent left : Tables) (s : Site) → Does (outcome width height given lens lent) (Ok s) left
    → (k : ℕ) → k < s.polygons → span_of s.grid left.boxes k ≡ span_at s.grid left.points left.polygons k
unfolding outcome
same_spans width height given lens lent left s d k h =
    let p = plan_of_lem (plan_of width height given lens (rooms_of lent)) given lens lent left s d in
    let w = going width height given lens (rooms_of lent) s p.0 in
    let e : s.polygons ≡ length lens = polygons_of width height given lens (rooms_of lent) s w in
    let t = tables_of s.grid given lens lent in
    let spans : span_of s.grid t.boxes k ≡ span_at s.grid t.points t.polygons k =
    fill_span s.grid t.points t.polygons (length lens) (length lent.boxes) t.boxes (boxes_are s.grid given lens lent w.counts) k (le_trans h (le_of_eq e)) in
    subst (λ (x : Tables). span_of s.grid x.boxes k ≡ span_at s.grid x.points x.polygons k) (sym p.1) spans
