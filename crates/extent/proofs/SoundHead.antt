-- EVERY SITE THAT BUILDING MAKES HAS A SOUND HEAD (document 01, "Sound tables"): of a width, a height and points in the domain and at most 4,096 polygons, the
-- bounds, the cell, columns and rows are as `SoundHead` says. `head_sound`: of polygons by their points. `boxes_sound`: of any boxes that are in the domain or empty.
-- `table_sound`: of a table that holds the polygons' boxes. Assumes nothing.
use Rattle.std.proofs.Common.{◌≡◌, ℕ, zero, suc, ◌+◌, ◌*◌, ◌/◌, ◌<◌, ◌≤◌, min, Bool, true, false, cond, not, ◌&&◌, T, eqb, ltb, List, [], ◌∷◌, length, get_or, sym, refl, ap, ◌∙◌, subst, true≢false, zero-le, le_trans, le_of_eq, mul-le-mul_right, zero-lt-suc, mul_comm, arith, lit≤, ltb-false}
use mathlib.Core.List.{foldl}
use lib.Ieee.{Float, nan, inf, of_bits, lt, eq, le, to_unsigned}
use lib.Ieee.Bits.{is_true}
use lib.Ieee.Fits.{and_i}
use lib.Ieee.Exact.{HasValue}
use borrow.Author.Tests.{eqb-false}
use Rattle.lists.specs.Lists.{cons_if, listed}
use Rattle.lists.specs.Members.{All}
use Rattle.lists.proofs.Members.{all_at}
use Rattle.lists.proofs.Joined.{all_listed, listed_ext, length_listed}
use Rattle.num.specs.Ops.{◌⊕◌, ◌⊗◌, ◌⊘◌, zero_f, one_f}
use Rattle.num.specs.Num.{floor_of, min_of, max_of}
use Rattle.num.specs.Root.{sqrt_of}
use Rattle.geom.specs.declared.Vec2.{Vec2}
use Rattle.geom.specs.declared.Aabb.{Aabb}
use Rattle.geom.specs.Vec.{vec, origin}
use Rattle.geom.specs.Box.{corners, corner_of, box, empty_box, include_of, box_up_to, from_points_of, union_of, is_empty_of, width_of, height_of}
use Rattle.bounds.specs.Within.{Within, WithinOrNan, AtLeast}
use Rattle.bounds.specs.Domain.{in_domain, in_size}
use Rattle.num.proofs.FloatOrder.{le_left, le_right, trans, eq_same, min_le_left, max_ge_left}
use Rattle.bounds.proofs.Within.{held, held_small, one_pos, not_nan, below_infinity, wider, or_nan_wider, le_of_least, value_within, value_least, count_least, sub_within, sum_within, mul_within, div_within, sqrt_within, floor_within, min_within, max_within, max_or_nan, min_first, max_first, max_least, cast_within}
use Rattle.bounds.proofs.Domain.{zero_is, one_is, domain_within, within_domain, size_least, size_within}
use Rattle.grid.specs.Boxes.{box_at}
use Rattle.grid.specs.Range.{columns_of, count_f}
use Rattle.extent.specs.declared.Sides.{Sides}
use Rattle.extent.specs.Boxes.{polygon_box_of, box_count, boxes_of}
use Rattle.extent.specs.Extent.{non_empty, bounds_of, side_of, sides_of, cells_cap, cell_from, cell_size_of, cols_of, rows_of}
use Rattle.extent.specs.Sound.{BoxIn, Placed, Given, SoundHead}
use Rattle.extent.proofs.Steps.{sides_few}

cap_is : HasValue cells_cap false 4000000 1
unfolding of_bits
cap_is = (refl, refl)

-- ---- a polygon's box
two : (i n : ℕ) → suc i ≤ n / 2 → (2 * i < n) × (2 * i + 1 < n)
two i n l = (omega arith, omega arith)

module _ (d : ℕ) where
  include_in : (b : Aabb) (p : Vec2) → BoxIn d b → Within d p.x → Within d p.y → BoxIn d (include_of b p)
  unfolding include_of
  include_in b p h i j = record {
    left_in = min_within d b.min.x p.x h.left_in i;
    low_in = min_within d b.min.y p.y h.low_in j;
    right_in = max_within d b.max.x p.x h.right_in i;
    high_in = max_within d b.max.y p.y h.high_in j;
  }

  -- the empty box takes its first point
  first_in : (p : Vec2) → Within d p.x → Within d p.y → BoxIn d (include_of empty_box p)
  unfolding include_of
  first_in p i j = record {
    left_in = subst (λ (z : Float). Within d z) (sym (min_first d p.x i)) i;
    low_in = subst (λ (z : Float). Within d z) (sym (min_first d p.y j)) j;
    right_in = subst (λ (z : Float). Within d z) (sym (max_first d p.x i)) i;
    high_in = subst (λ (z : Float). Within d z) (sym (max_first d p.y j)) j;
  }

  up_to_in : (pts : List Float) (n : ℕ) → suc n ≤ corners pts → ((i : ℕ) → i < length pts → Within d (get_or pts i nan)) → BoxIn d (box_up_to pts (suc n))
  unfolding box_up_to
  up_to_in pts zero l f = first_in (corner_of pts zero) (f (2 * zero) (two 0 (length pts) l).0) (f (2 * zero + 1) (two 0 (length pts) l).1)
  up_to_in pts (suc n) l f = include_in (box_up_to pts (suc n)) (corner_of pts (suc n)) (up_to_in pts n (less (length pts) n l) f) (f (2 * suc n) (two (suc n) (length pts) l).0) (f (2 * suc n + 1) (two (suc n) (length pts) l).1)
    where
      less : (m n : ℕ) → suc (suc n) ≤ m / 2 → suc n ≤ m / 2
      less m n l = omega arith

none_placed : Placed empty_box
unfolding is_empty_of le
none_placed e = absurd (true≢false e)

-- the smallest box around three points or more lies in the domain
pub polygon_in : (pts : List Float) → All (λ x. in_domain x ≡ true) pts → 3 ≤ corners pts → BoxIn 1000000 (from_points_of pts)
unfolding from_points_of
polygon_in pts h = in_it (corners pts) refl
  where
    in_it : (n : ℕ) → n ≡ corners pts → 3 ≤ n → BoxIn 1000000 (box_up_to pts n)
    in_it zero e l = absurd (no l)
      where
        no : 3 ≤ 0 → ⊥
        no l = omega arith
    in_it (suc n) e l = up_to_in 1000000 pts n (le_of_eq e) (λ i k. domain_within (get_or pts i nan) (all_at (λ x. in_domain x ≡ true) pts i nan h k))

pub polygon_placed : (pts : List Float) → All (λ x. in_domain x ≡ true) pts → Placed (polygon_box_of pts)
unfolding polygon_box_of
polygon_placed pts h = go (ltb (corners pts) 3) (ltb-false (corners pts) 3)
  where
    go : (q : Bool) → (q ≡ false → 3 ≤ corners pts) → Placed (cond q empty_box (from_points_of pts))
    go true f = none_placed
    go false f = λ e. polygon_in pts h (f refl)

-- ---- the boxes that are not empty lie in the domain
kept_in : (bs : List Aabb) → All Placed bs → All (BoxIn 1000000) (non_empty bs)
kept_in [] h = tt
kept_in (b ∷ bs) h = go (is_empty_of b) h.0 (kept_in bs h.1)
  where
    go : (q : Bool) → (q ≡ false → BoxIn 1000000 b) → All (BoxIn 1000000) (non_empty bs) → All (BoxIn 1000000) (cons_if (not q) b (non_empty bs))
    go true f k = k
    go false f k = (f refl, k)

-- ---- the bounds
union_in : (d : ℕ) (a b : Aabb) → BoxIn d a → BoxIn d b → BoxIn d (union_of a b)
unfolding union_of
union_in d a b h k = record {
  left_in = min_within d a.min.x b.min.x h.left_in k.left_in;
  low_in = min_within d a.min.y b.min.y h.low_in k.low_in;
  right_in = max_within d a.max.x b.max.x h.right_in k.right_in;
  high_in = max_within d a.max.y b.max.y h.high_in k.high_in;
}

joined_in : (d : ℕ) (a : Aabb) (bs : List Aabb) → BoxIn d a → All (BoxIn d) bs → BoxIn d (foldl union_of a bs)
joined_in d a [] h k = h
joined_in d a (b ∷ bs) h k = joined_in d (union_of a b) bs (union_in d a b h k.0) k.1

-- a box's sides are in order, so it is not empty
abbrev Open : Aabb → Type 0
Open b = T (le b.min.x b.max.x) × T (le b.min.y b.max.y)

stays : (lo hi a b : Float) → T (le lo hi) → T (le (min_of lo a) (max_of hi b))
stays lo hi a b h = trans (min_of lo a) lo (max_of hi b) (min_le_left lo a (le_left lo hi h)) (trans lo hi (max_of hi b) h (max_ge_left hi b (le_right lo hi h)))

union_open : (a b : Aabb) → Open a → Open (union_of a b)
unfolding union_of
union_open a b h = (stays a.min.x a.max.x b.min.x b.max.x h.0, stays a.min.y a.max.y b.min.y b.max.y h.1)

joined_open : (a : Aabb) (bs : List Aabb) → Open a → Open (foldl union_of a bs)
joined_open a [] h = h
joined_open a (b ∷ bs) h = joined_open (union_of a b) bs (union_open a b h)

open_is : (b : Aabb) → Open b → is_empty_of b ≡ false
unfolding is_empty_of
open_is b h = ap not (is_true (le b.min.x b.max.x && le b.min.y b.max.y) (and_i (le b.min.x b.max.x) (le b.min.y b.max.y) h.0 h.1))

-- ---- sides and areas
width_in : (b : Aabb) → BoxIn 1000000 b → Within 2000000 (width_of b)
unfolding width_of
width_in b h = sub_within 1000000 1000000 2000000 b.max.x b.min.x (lit≤ tt) (held tt) h.right_in h.left_in

height_in : (b : Aabb) → BoxIn 1000000 b → Within 2000000 (height_of b)
unfolding height_of
height_in b h = sub_within 1000000 1000000 2000000 b.max.y b.min.y (lit≤ tt) (held tt) h.high_in h.low_in

side_in : (b : Aabb) → BoxIn 1000000 b → Within 2000000 (side_of b)
unfolding side_of
side_in b h = max_within 2000000 (width_of b) (height_of b) (width_in b h) (height_in b h)

sides_in : (bs : List Aabb) → All (BoxIn 1000000) bs → All (λ b. Within 2000000 (side_of b)) bs
sides_in [] h = tt
sides_in (b ∷ bs) h = (side_in b h.0, sides_in bs h.1)

-- ---- the cell
abbrev Cell : Float → Type 0
Cell c = Within 2000000 c × AtLeast 1 c

with_one : (x : Float) → Within 2000000 x → Cell (max_of x one_f)
with_one x h = (max_within 2000000 x one_f h (wider 1 2000000 one_f (lit≤ tt) (value_within 1 one_f one_is)), max_least 1 x one_f (value_least 1 one_f one_is))

from_in : (s : Sides) (b : Aabb) → s.count ≤ 4096 → Within (s.count * 2000000) s.sum → BoxIn 1000000 b → Cell (cell_from s b)
unfolding cell_from
from_in s b N h k = go (eqb s.count 0) (λ e. some s.count (eqb-false s.count 0 e))
  where
    some : (n : ℕ) → (n ≡ 0 → ⊥) → 0 < n
    some zero f = absurd (f refl)
    some (suc n) f = zero-lt-suc n

    mean : Float
    mean = s.sum ⊘ count_f s.count

    area : Float
    area = width_of b ⊗ height_of b

    mean_in : 0 < s.count → Within 2000000 mean
    mean_in p =
        div_within (s.count * 2000000) s.count 2000000 s.sum (count_f s.count) (le_of_eq (mul_comm s.count 2000000)) p (held tt) h
        (count_least s.count (held_small s.count (le_trans N (lit≤ tt))))

    root_in : WithinOrNan 2000000 (sqrt_of (area ⊘ cells_cap))
    root_in =
        or_nan_wider 1000 2000000 (sqrt_of (area ⊘ cells_cap)) (lit≤ tt)
        (sqrt_within 1000000 1000 (area ⊘ cells_cap) (lit≤ tt) (held tt)
        (div_within 4000000000000 4000000 1000000 area cells_cap (lit≤ tt) (zero-lt-suc 3999999) (held tt)
        (mul_within 2000000 2000000 4000000000000 (width_of b) (height_of b) (lit≤ tt) (held tt) (width_in b k) (height_in b k)) (value_least 4000000 cells_cap cap_is)))

    go : (q : Bool) → (q ≡ false → 0 < s.count) → Cell (cond q (max_of (side_of b) one_f) (max_of (max_of mean (sqrt_of (area ⊘ cells_cap))) one_f))
    go true f = with_one (side_of b) (side_in b k)
    go false f = with_one (max_of mean (sqrt_of (area ⊘ cells_cap))) (max_or_nan 2000000 mean (sqrt_of (area ⊘ cells_cap)) (mean_in (f refl)) root_in)

-- THE CELL is finite, at least 1 and at most 2,000,000
cell_in : (bs : List Aabb) (b : Aabb) → length bs ≤ 4096 → All Placed bs → BoxIn 1000000 b → Cell (cell_size_of bs b)
unfolding cell_size_of
cell_in bs b N f h = from_in (sides_of bs) b few summed h
  where
    few : (sides_of bs).count ≤ 4096
    few = le_trans (sides_few bs) N

    none : (n : ℕ) → 0 + n ≡ n
    none n = omega arith

    summed : Within ((sides_of bs).count * 2000000) (sides_of bs).sum
    summed =
        unfold sides_of in
        subst (λ (n : ℕ). Within (n * 2000000) (foldl (λ (t : Float) (d : Aabb). t ⊕ side_of d) zero_f (non_empty bs))) (none (length (non_empty bs)))
        (sum_within side_of 2000000 0 zero_f (non_empty bs)
        (le_trans (mul-le-mul_right 2000000 (le_trans (le_of_eq (none (length (non_empty bs)))) few)) (lit≤ tt)) (value_within 0 zero_f zero_is) (sides_in (non_empty bs) (kept_in bs f)))

-- THE COLUMNS number 1 to 2,000,001
across : (w cell : Float) → Within 2000000 w → AtLeast 1 cell → (1 ≤ columns_of w cell) × (columns_of w cell ≤ 2000001)
unfolding columns_of
across w cell h k =
    let c : to_unsigned 64 (floor_of (w ⊘ cell)) ≤ 2000000 = cast_within 64 2000000 (floor_of (w ⊘ cell)) (floor_within 2000000 (w ⊘ cell) (held tt) (div_within 2000000 1 2000000 w cell (lit≤ tt) one_pos (held tt) h k)) in
    (omega arith, omega arith)

-- ---- the theorems
inverse_in : (c : Float) → AtLeast 1 c → Within 1 (one_f ⊘ c)
inverse_in c h = div_within 1 1 1 one_f c (lit≤ tt) one_pos (held tt) (value_within 1 one_f one_is) h

made_sound : (b : Aabb) (cell : Float) → BoxIn 1000000 b → Open b → Cell cell → SoundHead b cell
unfolding cols_of rows_of
made_sound b cell h o c =
    let cols = across (width_of b) cell (width_in b h) c.1 in
    let rows = across (height_of b) cell (height_in b h) c.1 in
    record {
      left_in = within_domain b.min.x h.left_in;
      low_in = within_domain b.min.y h.low_in;
      right_in = within_domain b.max.x h.right_in;
      high_in = within_domain b.max.y h.high_in;
      not_empty = open_is b o;
      cell_within = c.0;
      cell_finite = is_true (lt cell (inf false)) (below_infinity 2000000 cell c.0);
      cell_least = is_true (le one_f cell) (le_of_least 1 cell one_f one_is c.1);
      inverse_within = inverse_in cell c.1;
      inverse_same = is_true (eq (one_f ⊘ cell) (one_f ⊘ cell)) (eq_same (one_f ⊘ cell) (not_nan 1 (one_f ⊘ cell) (inverse_in cell c.1)));
      some_cols = cols.0;
      some_rows = rows.0;
      few_cols = cols.1;
      few_rows = rows.1;
    }

pub boxes_sound : (w h : Float) (bs : List Aabb) → in_size w ≡ true → in_size h ≡ true → length bs ≤ 4096 → All Placed bs
    → SoundHead (bounds_of w h bs) (cell_size_of bs (bounds_of w h bs))
boxes_sound w h bs W H N f = made_sound (bounds_of w h bs) (cell_size_of bs (bounds_of w h bs)) b o (cell_in bs (bounds_of w h bs) N f b)
  where
    nought : Within 1000000 zero_f
    nought = wider 0 1000000 zero_f zero-le (value_within 0 zero_f zero_is)

    b : BoxIn 1000000 (bounds_of w h bs)
    b = unfold bounds_of in joined_in 1000000 (box origin (vec w h)) (non_empty bs) (record { left_in = nought; low_in = nought; right_in = size_within w W; high_in = size_within h H }) (kept_in bs f)

    o : Open (bounds_of w h bs)
    o = unfold bounds_of in joined_open (box origin (vec w h)) (non_empty bs) (size_least w W, size_least h H)

pub head_sound : (w h : Float) (n : ℕ) (points : ℕ → List Float) → Given w h n points
    → SoundHead (bounds_of w h (listed (λ k. polygon_box_of (points k)) n)) (cell_size_of (listed (λ k. polygon_box_of (points k)) n) (bounds_of w h (listed (λ k. polygon_box_of (points k)) n)))
head_sound w h n points g =
    boxes_sound w h (listed (λ k. polygon_box_of (points k)) n) g.width_in g.height_in (le_trans (le_of_eq (length_listed (λ k. polygon_box_of (points k)) n)) g.few)
    (all_listed Placed (λ k. polygon_box_of (points k)) n (λ k l. polygon_placed (points k) (g.points_are_in k l)))

-- a table of n boxes or more holds, in its first n, the boxes that it is read to hold
pub table_boxes : (table : List Float) (n : ℕ) (f : ℕ → Aabb) → n ≤ box_count table → ((k : ℕ) → k < n → box_at table k ≡ f k) → boxes_of table n ≡ listed f n
unfolding boxes_of
table_boxes table n f l h = ap (listed (box_at table)) (least n (box_count table) l) ∙ listed_ext (box_at table) f n h
  where
    least : (a b : ℕ) → a ≤ b → min a b ≡ a
    least a b l = omega arith

pub table_sound : (w h : Float) (n : ℕ) (points : ℕ → List Float) (table : List Float) → Given w h n points → n ≤ box_count table → ((k : ℕ) → k < n → box_at table k ≡ polygon_box_of (points k))
    → SoundHead (bounds_of w h (boxes_of table n)) (cell_size_of (boxes_of table n) (bounds_of w h (boxes_of table n)))
table_sound w h n points table g l e =
    subst (λ (bs : List Aabb). SoundHead (bounds_of w h bs) (cell_size_of bs (bounds_of w h bs))) (sym (table_boxes table n (λ k. polygon_box_of (points k)) l e)) (head_sound w h n points g)
