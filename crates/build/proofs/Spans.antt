-- The polygons' boxes and cells: bounds and sides by one polygon more, the number of items, and tables that are the same where the cells are. Assumes nothing.
use Rattle.std.proofs.Common.{Option}
use mathlib.Core.Path.{◌≡◌, refl, sym, ap, ◌∙◌}
use mathlib.Core.List.{List, ◌++◌}
use Prim.Native.Nat.{ℕ, suc, ◌+◌, ◌-◌, ◌*◌, ◌≤◌, ◌<◌}
use native.Mathlib.Nat.{le_trans, le_of_eq, add-zero}
use native.Mathlib.Numerals.{add-one}
use native.Mathlib.Omega.{arith}
use lib.ListN.{length, get_or}
use lib.Ieee.{Float, nan}
use Rattle.lists.specs.Lists.{counting, joined, listed, sum_to, sum_over}
use Rattle.lists.specs.Parts.{padded}
use Rattle.lists.proofs.Counting.{all_counting, filter_ext, counting_up, counting_none}
use Rattle.lists.proofs.Joined.{joined_ext, joined_part, length_listed, listed_ext}
use Rattle.lists.proofs.Parts.{get_d_part}
use Rattle.lists.proofs.Sums.{sum_to_ext, sum_to_const}
use Rattle.num.specs.Ops.{zero_f}
use Rattle.geom.specs.declared.Aabb.{Aabb}
use Rattle.grid.specs.Boxes.{box_from, box_at}
use Rattle.grid.specs.declared.Grid.{Grid}
use Rattle.grid.specs.Range.{range_of}
use Rattle.extent.specs.declared.Sides.{Sides}
use Rattle.extent.specs.Extent.{bounds_of, join_box_of, sides_of, add_side_of}
use Rattle.extent.proofs.Steps.{bounds_next, sides_next, sides_few}
use Rattle.tables.specs.Tables.{span_of, covers, Limits, Valid, area_of, cell_items, items_of, cell_start}
use Rattle.tables.proofs.All.{item_count_lem}
use Rattle.tables.proofs.Cells.{valid_box}
use Rattle.site.specs.Tables.{box_of}
use Rattle.build.specs.Stored.{stored_box, box_numbers, span_in}
use Rattle.build.specs.Refusals.{item_count}
use Rattle.build.specs.Outcome.{span_at}
use Rattle.grid.specs.declared.CellRange.{CellRange}

-- ---- bounds and sides
module _ (f : ℕ → Aabb) (k : ℕ) where
  pub bounds_more : (w h : Float) (a b r : Aabb) → a ≡ bounds_of w h (listed f k) → b ≡ f k → r ≡ join_box_of a b → r ≡ bounds_of w h (listed f (k + 1))
  bounds_more w h a b r p q e = rw (e, p, q, add-one) (bounds_next w h (listed f k) (f k))

  pub sides_more : (s r : Sides) (b : Aabb) → s ≡ sides_of (listed f k) → b ≡ f k → r ≡ add_side_of s b → r ≡ sides_of (listed f (k + 1))
  sides_more s r b p q e = rw (e, p, q, add-one) (sides_next (listed f k) (f k))

  pub sides_most : (s : Sides) → s ≡ sides_of (listed f k) → s.count ≤ k
  sides_most s p = rw p (le_trans (sides_few (listed f k)) (le_of_eq (length_listed f k)))

-- ---- the number of items
module _ (g : Grid) (given : List Float) (lens : List ℕ) where
  abbrev area_in : ℕ → ℕ
  area_in id = area_of (span_in g given lens id)

  -- what is counted, and what is left
  abbrev pub Counting : ℕ → ℕ → Type 0
  Counting n k = n + sum_over area_in (counting k (length lens - k)) ≡ sum_over area_in (counting 0 (length lens))

  pub count_none : Counting 0 0
  count_none =
      let e : length lens - 0 ≡ length lens = omega arith in
      rw e (omega arith)

  pub count_more : (n k m : ℕ) (b : Aabb) → k < length lens → Counting n k → b ≡ stored_box given lens k → m ≡ area_of (range_of g b) → Counting (n + m) (k + 1)
  count_more n k m b h c p q = omega (arith, c, ap (sum_over area_in) (counting_up k (length lens) h), one)
    where
      one : m ≡ area_in k
      one = unfold span_in in q ∙ ap (λ (d : Aabb). area_of (range_of g d)) p

  pub count_all : (n k : ℕ) → Limits g → length lens ≤ k → k ≤ length lens → Counting n k → n ≡ item_count g given lens
  unfolding item_count
  count_all n k l h i c =
      omega (arith, c, ap (sum_over area_in) (counting_none k (length lens) h)) ∙ item_count_lem (span_in g given lens) (length lens) g.cols g.rows (λ id q. valid id)
    where
      valid : (id : ℕ) → Valid g.cols g.rows (span_in g given lens id)
      valid id = unfold span_in in valid_box g (stored_box given lens id) l

-- ---- the same cells, the same tables
module _ (p q : ℕ → (Option CellRange)) (n cols : ℕ) (same : (k : ℕ) → k < n → p k ≡ q k) where
  cell_ext : (c : ℕ) → cell_items p n cols c ≡ cell_items q n cols c
  cell_ext c = filter_ext (λ id. covers cols (p id) c) (λ id. covers cols (q id) c) (counting 0 n) (all_counting _ 0 n (λ k g l. ap (λ (s : (Option CellRange)). covers cols s c) (same k (omega arith))))

  pub items_ext : (cells : ℕ) → items_of p n cols cells ≡ items_of q n cols cells
  items_ext cells = joined_ext (cell_items p n cols) (cell_items q n cols) cells (λ c h. cell_ext c)

  pub starts_ext : (m : ℕ) → listed (cell_start p n cols) m ≡ listed (cell_start q n cols) m
  starts_ext m = listed_ext (cell_start p n cols) (cell_start q n cols) m (λ c h. sum_to_ext (λ k. length (cell_items p n cols k)) (λ k. length (cell_items q n cols k)) c (λ k l. ap length (cell_ext k)))

-- ---- a number of a block
module _ {A : Type 0} where
  -- where the block c starts at s
  pub in_block : (f : ℕ → List A) (n c i s : ℕ) (d : A) (rest : List A) → c < n → i < length (f c) → s ≡ sum_to (λ k. length (f k)) c → get_or (joined f n ++ rest) (s + i) d ≡ get_or (f c) i d
  in_block f n c i s d rest h l e =
      rw e
      (sym (get_d_part (sum_to (λ k. length (f k)) c) (sum_to (λ k. length (f k)) (suc c)) (joined f n ++ rest) i d (omega arith))
      ∙ ap (λ (x : List A). get_or x i d) (joined_part f n c rest h))

  -- blocks of w numbers each
  pub in_even : (f : ℕ → List A) (w n c i : ℕ) (d : A) (rest : List A) → ((k : ℕ) → length (f k) ≡ w) → c < n → i < w → get_or (joined f n ++ rest) (c * w + i) d ≡ get_or (f c) i d
  in_even f w n c i d rest all h l = in_block f n c i (c * w) d rest h (omega (arith, all c)) (sym (sum_to_ext (λ k. length (f k)) (λ _. w) c (λ k m. all k) ∙ sum_to_const w c))

-- a table of boxes holds them
pub table_box : (f : ℕ → Aabb) (n k : ℕ) (rest : List Float) → k < n → box_at (joined (λ j. box_numbers (f j)) n ++ rest) k ≡ f k
unfolding box_at box_from
table_box f n k rest h = rw (first, at 1 (omega arith), at 2 (omega arith), at 3 (omega arith))
  where
    at : (i : ℕ) → i < 4 → get_or (joined (λ j. box_numbers (f j)) n ++ rest) (k * 4 + i) nan ≡ get_or (box_numbers (f k)) i nan
    at i l = in_even (λ j. box_numbers (f j)) 4 n k i nan rest (λ j. refl) h l

    first : get_or (joined (λ j. box_numbers (f j)) n ++ rest) (k * 4) nan ≡ (f k).min.x
    first = ap (λ (m : ℕ). get_or (joined (λ j. box_numbers (f j)) n ++ rest) m nan) (sym (add-zero (k * 4))) ∙ at 0 (omega arith)

-- a grid over the boxes that are written has the cells of the polygons written
pub fill_span : (g : Grid) (points : List Float) (polygons : List ℕ) (n m : ℕ) (boxes : List Float) → boxes ≡ padded zero_f m (joined (λ k. box_numbers (box_of points polygons k)) n)
    → (k : ℕ) → k < n → span_of g boxes k ≡ span_at g points polygons k
unfolding span_of span_at
fill_span g points polygons n m boxes e k h = ap (range_of g) (ap (λ (l : List Float). box_at l k) e ∙ table_box (box_of points polygons) n k _ h)
