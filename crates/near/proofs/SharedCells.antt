-- THE COUNT OF ENTRIES: the cells of the box's range hold as many entries as the polygons share cells with it, all told. Assumes nothing.
use Rattle.std.proofs.Common.{None, Option, Some}
use mathlib.Core.Path.{◌≡◌, sym, ap, ◌∙◌}
use mathlib.Core.Logic.{⊎_elim}
use mathlib.Core.Bool.{Bool, true, false, ◌&&◌, and-false, and-true}
use Prim.Native.Nat.{ℕ, zero, suc, ◌+◌, ◌-◌, ◌*◌, ◌/◌, ◌%◌, ◌<◌, min, max}
use native.Mathlib.Nat.{add-zero, add_assoc, mul-zero, mul-one, mul-add, mul-add-div_right, mul-add-mod_self_right, mod-eq_of_lt, div-eq_of_lt}
use native.Mathlib.Omega.{arith}
use lib.Dec.{leb}
use lib.ListN.{length}
use borrow.Author.Tests.{le-leb, lt-leb}
use Rattle.lists.specs.Lists.{bit, counting, sum_to, sum_over}
use Rattle.lists.proofs.Cases.{lt_or_le}
use Rattle.lists.proofs.Sums.{sum_to_ext, sum_to_zero, sum_over_ext, sum_swap}
use Rattle.lists.proofs.Counting.{all_counting, length_filter}
use Rattle.grid.specs.declared.CellRange.{CellRange}
use Rattle.tables.specs.Tables.{covers, area_of, cell_items, held_in}
use Rattle.near.specs.Shared.{meet}
use Rattle.near.specs.Keys.{cells_from}

-- how many of w numbers from c on lie from a to b
sum_between : (a b c w : ℕ) → sum_to (λ i. bit (leb a (c + i) && leb (c + i) b)) w ≡ min (suc b) (c + w) - max a c
sum_between a b c zero = omega arith
sum_between a b c (suc w) =
    ⊎_elim
    (λ l. let e : bit (leb a (c + w) && leb (c + w) b) ≡ 0 = rw (lt-leb a (c + w) l) in omega (arith, sum_between a b c w))
    (λ l.
    ⊎_elim
    (λ m. let e : bit (leb a (c + w) && leb (c + w) b) ≡ 0 = rw (lt-leb (c + w) b m, and-false) in omega (arith, sum_between a b c w))
    (λ m. let e : bit (leb a (c + w) && leb (c + w) b) ≡ 1 = rw (le-leb a (c + w) l, le-leb (c + w) b m) in omega (arith, sum_between a b c w))
    (lt_or_le b (c + w)))
    (lt_or_le (c + w) a)

-- sums of a test beside another, and of multiples
sum_and : (f : ℕ → Bool) (t : Bool) (w : ℕ) → sum_to (λ i. bit (f i && t)) w ≡ sum_to (λ i. bit (f i)) w * bit t
sum_and f true w = sum_to_ext (λ i. bit (f i && true)) (λ i. bit (f i)) w (λ i l. ap bit (and-true (f i))) ∙ sym (mul-one _)
sum_and f false w = sum_to_ext (λ i. bit (f i && false)) (λ _. 0) w (λ i l. ap bit (and-false (f i))) ∙ sum_to_zero w ∙ sym (mul-zero _)

sum_times : (k : ℕ) (f : ℕ → ℕ) (h : ℕ) → sum_to (λ j. k * f j) h ≡ k * sum_to f h
sum_times k f zero = sym (mul-zero k)
sum_times k f (suc h) = omega (arith, sum_times k f h, mul-add k (sum_to f h) (f h))

-- ---- one polygon's cells among those of the box's range
module _ (cols : ℕ) (q : CellRange) (below : q.c1 < cols) where
  row_cells : (p : CellRange) (row : ℕ)
      → sum_to (λ i. bit (covers cols (Some p) (row * cols + q.c0 + i))) (suc q.c1 - q.c0)
      ≡ (min (suc p.c1) (q.c0 + (suc q.c1 - q.c0)) - max p.c0 q.c0) * bit (leb p.r0 row && leb row p.r1)
  row_cells p row =
      sum_to_ext (λ i. bit (covers cols (Some p) (row * cols + q.c0 + i))) (λ i. bit ((leb p.c0 (q.c0 + i) && leb (q.c0 + i) p.c1) && (leb p.r0 row && leb row p.r1))) (suc q.c1 - q.c0)
      (λ i l. ap bit (at i (omega arith)))
      ∙ sum_and (λ i. leb p.c0 (q.c0 + i) && leb (q.c0 + i) p.c1) (leb p.r0 row && leb row p.r1) (suc q.c1 - q.c0)
      ∙ ap (λ (k : ℕ). k * bit (leb p.r0 row && leb row p.r1)) (sum_between p.c0 p.c1 q.c0 (suc q.c1 - q.c0))
    where
      at : (i : ℕ) → q.c0 + i < cols → covers cols (Some p) (row * cols + q.c0 + i) ≡ ((leb p.c0 (q.c0 + i) && leb (q.c0 + i) p.c1) && (leb p.r0 row && leb row p.r1))
      at i h =
          let m : (row * cols + q.c0 + i) % cols ≡ q.c0 + i = rw add_assoc (mul-add-mod_self_right row cols (q.c0 + i) ∙ mod-eq_of_lt h) in
          let d : (row * cols + q.c0 + i) / cols ≡ row = rw add_assoc (mul-add-div_right (omega arith) row (q.c0 + i) ∙ ap (◌+◌ row) (div-eq_of_lt h) ∙ add-zero row) in
          rw (m, d)

  cells : (s : (Option CellRange)) → sum_to (λ j. sum_to (λ i. bit (covers cols s ((q.r0 + j) * cols + q.c0 + i))) (suc q.c1 - q.c0)) (suc q.r1 - q.r0) ≡ area_of (meet s q)
  cells None =
      sum_to_ext (λ j. sum_to (λ i. 0) (suc q.c1 - q.c0)) (λ _. 0) (suc q.r1 - q.r0) (λ j l. sum_to_zero (suc q.c1 - q.c0)) ∙ sum_to_zero (suc q.r1 - q.r0)
  cells (Some p) =
      let w = min (suc p.c1) (q.c0 + (suc q.c1 - q.c0)) - max p.c0 q.c0 in
      sum_to_ext (λ j. sum_to (λ i. bit (covers cols (Some p) ((q.r0 + j) * cols + q.c0 + i))) (suc q.c1 - q.c0)) (λ j. w * bit (leb p.r0 (q.r0 + j) && leb (q.r0 + j) p.r1)) (suc q.r1 - q.r0)
      (λ j l. row_cells p (q.r0 + j))
      ∙ sum_times w (λ j. bit (leb p.r0 (q.r0 + j) && leb (q.r0 + j) p.r1)) (suc q.r1 - q.r0)
      ∙ ap (◌*◌ w) (sum_between p.r0 p.r1 q.r0 (suc q.r1 - q.r0))
      ∙ rw (side p.c0 p.c1 q.c0 q.c1, side p.r0 p.r1 q.r0 q.r1)
    where
      side : (a b c d : ℕ) → min (suc b) (c + (suc d - c)) - max a c ≡ min b d + 1 - max a c
      side a b c d = omega arith

  -- THE COUNT
  pub held_cells : (span : ℕ → (Option CellRange)) (n : ℕ) → held_in span n cols (Some q) ≡ cells_from span cols q 0 n
  held_cells span n =
      let w = suc q.c1 - q.c0 in
      let h = suc q.r1 - q.r0 in
      sum_to_ext (λ j. sum_to (λ i. length (cell_items span n cols ((q.r0 + j) * cols + q.c0 + i))) w) (λ j. sum_over (λ x. sum_to (λ i. bit (covers cols (span x) ((q.r0 + j) * cols + q.c0 + i))) w) (counting 0 n)) h
      (λ j l.
      sum_to_ext (λ i. length (cell_items span n cols ((q.r0 + j) * cols + q.c0 + i))) (λ i. sum_over (λ x. bit (covers cols (span x) ((q.r0 + j) * cols + q.c0 + i))) (counting 0 n)) w
      (λ i k. length_filter (λ x. covers cols (span x) ((q.r0 + j) * cols + q.c0 + i)) (counting 0 n))
      ∙ sum_swap (λ x i. bit (covers cols (span x) ((q.r0 + j) * cols + q.c0 + i))) (counting 0 n) w)
      ∙ sum_swap (λ x j. sum_to (λ i. bit (covers cols (span x) ((q.r0 + j) * cols + q.c0 + i))) w) (counting 0 n) h
      ∙ sum_over_ext (λ x. sum_to (λ j. sum_to (λ i. bit (covers cols (span x) ((q.r0 + j) * cols + q.c0 + i))) w) h) (λ x. area_of (meet (span x) q)) (counting 0 n) (all_counting _ 0 n (λ x g l. cells (span x)))
