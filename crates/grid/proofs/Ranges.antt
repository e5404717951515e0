-- A box's range lies in the grid, whatever the floats are: `x.clamp(0.0, last as f64) as usize` is at most `last`, also for a NaN.
-- Assumes nothing.
use Rattle.std.proofs.Common.{Option, None, Some}
use Prim.Native.Nat.{ℕ, ◌+◌, ◌-◌, ◌*◌, ◌/◌, ◌^◌, ◌≤◌, ◌<◌, min, zero-le}
use mathlib.Core.Path.{◌≡◌, refl, sym, ap, ◌∙◌}
use mathlib.Core.Bool.{Bool, true, false, not, cond, true≢false}
use native.Mathlib.Omega.{arith}
use native.Mathlib.Nat.{le_trans, le_of_eq, mul-one, mul_comm, mul_right_comm, mul-le-mul, le_of_mul-le-mul_right, div-le_of_le-mul}
use lib.Dec.{T, nltb→le}
use lib.Ieee.{Float, nan, inf, fin, binary64, up, down, lt, of_int, of_bits, to_unsigned}
use lib.Ieee.Fits.{down_pos}
use lib.Ieee.Exact.{HasValue}
use lib.Ieee.Back.{round_whole}
use Rattle.num.specs.Ops.{zero_f}
use Rattle.num.specs.Num.{clamp_of}
use Rattle.geom.specs.declared.Aabb.{Aabb}
use Rattle.geom.specs.Box.{is_empty_of}
use Rattle.grid.specs.Range.{count_f, cell_index, range_by, range_of, InGrid}
use Rattle.grid.specs.declared.CellRange.{CellRange}
use Rattle.grid.specs.declared.Grid.{Grid}

cap : (a c b : ℕ) → a ≤ b → min a c ≤ b
cap a c b h = omega arith

-- m * u / e ≤ n, where m * u * d ≤ k * v * e and k * v is n * d
under : (m u e k v d n : ℕ) → 0 < d → m * u * d ≤ k * v * e → k * v * 1 ≡ n * d → m * u / e ≤ n
under m u e k v d n D h q =
    div-le_of_le-mul e
    (le_trans
    (le_of_mul-le-mul_right (le_trans h (le_of_eq (ap (λ (z : ℕ). z * e) (sym (mul-one (k * v)) ∙ q) ∙ mul_right_comm n d e))) D)
    (le_of_eq (mul_comm n e)))

-- a float that is not above the number n casts to n at most
cast_under : (n : ℕ) (x hi : Float) → HasValue hi false n 1 → T (not (lt hi x)) → to_unsigned 64 x ≤ n
unfolding to_unsigned lt
cast_under n nan hi v t = zero-le
cast_under n (inf false) nan v t = elim v [ ]
cast_under n (inf false) (inf _) v t = elim v [ ]
cast_under n (fin false m e) nan v t = elim v [ ]
cast_under n (fin false m e) (inf _) v t = elim v [ ]
cast_under n (inf true) hi v t = zero-le
cast_under n (inf false) (fin s k d) v t = absurd t
cast_under n (fin true m e) hi v t = zero-le
cast_under n (fin false m e) (fin true k d) v t = absurd (true≢false v.0)
cast_under n (fin false m e) (fin false k d) v t = cap (m * up e / down e) (2 ^ 64 - 1) n (under m (up e) (down e) k (up d) (down d) n (down_pos d) (nltb→le _ _ t) v.1)

-- and so does n itself
cast_value : (n : ℕ) (hi : Float) → HasValue hi false n 1 → to_unsigned 64 hi ≤ n
unfolding to_unsigned
cast_value n nan v = elim v [ ]
cast_value n (inf _) v = elim v [ ]
cast_value n (fin true k d) v = zero-le
cast_value n (fin false k d) v = cap (k * up d / down d) (2 ^ 64 - 1) n (div-le_of_le-mul (down d) (le_of_eq (sym (mul-one (k * up d)) ∙ v.1 ∙ mul_comm n (down d))))

zero_cast : (n : ℕ) → to_unsigned 64 zero_f ≤ n
unfolding of_bits to_unsigned
zero_cast n = zero-le

-- the index of a column or row is at most the last one
pub index_le : (x : Float) (last : ℕ) → last < 2 ^ 32 → cell_index x last ≤ last
unfolding cell_index clamp_of of_int
index_le x last h = go (lt x zero_f) (lt (count_f last) x) (λ t. cast_under last x (count_f last) value t)
  where
    value : HasValue (count_f last) false last 1
    value = round_whole binary64 false last (small last h)
      where
        small : (n : ℕ) → n < 2 ^ 32 → n ≤ 2 ^ 53
        small n h = omega arith

    go : (p q : Bool) → (T (not q) → to_unsigned 64 x ≤ last) → to_unsigned 64 (cond p zero_f (cond q (count_f last) x)) ≤ last
    go true q f = zero_cast last
    go false true f = cast_value last (count_f last) value
    go false false f = f tt

never : {A : Type 0} (r : CellRange) → None ≡ Some r → A
never r e = let z : ◌≡◌ {A = ℕ} 0 1 = cc in absurd (omega arith)

-- a range that is no Nothing passed the five tests
past : (a b c d e : Bool) (q r : CellRange)
    → cond a None (cond b None (cond c None (cond d None (cond e None (Some q))))) ≡ Some r → q ≡ r
past true b c d e q r k = never r k
past false true c d e q r k = never r k
past false false true d e q r k = never r k
past false false false true e q r k = never r k
past false false false false true q r k = never r k
past false false false false false q r k = cc

by_in : (g : Grid) (empty : Bool) (c0 r0 c1 r1 : Float) (r : CellRange) → 0 < g.cols → 0 < g.rows → g.cols < 2 ^ 32 → g.rows < 2 ^ 32
    → range_by (g.cols - 1) (g.rows - 1) empty c0 r0 c1 r1 ≡ Some r → InGrid g r
unfolding range_by
by_in g empty c0 r0 c1 r1 r p q m n e =
    let f = past (lt c1 zero_f) (lt r1 zero_f) (lt (count_f (g.cols - 1)) c0) (lt (count_f (g.rows - 1)) r0) empty (record { c0 = cell_index c0 (g.cols - 1); r0 = cell_index r0 (g.rows - 1); c1 = cell_index c1 (g.cols - 1); r1 = cell_index r1 (g.rows - 1) }) r e in
    rw (← f) (
    record {
      c0_in = omega (arith, index_le c0 (g.cols - 1) (omega arith));
      c1_in = omega (arith, index_le c1 (g.cols - 1) (omega arith));
      r0_in = omega (arith, index_le r0 (g.rows - 1) (omega arith));
      r1_in = omega (arith, index_le r1 (g.rows - 1) (omega arith));
    })

-- THE RANGE of a box, where it has one, lies in a grid of at least one column and one row
pub range_in : (g : Grid) (b : Aabb) (r : CellRange) → 0 < g.cols → 0 < g.rows → g.cols < 2 ^ 32 → g.rows < 2 ^ 32 → range_of g b ≡ Some r → InGrid g r
unfolding range_of
range_in g b r p q m n e = by_in g _ _ _ _ _ r p q m n e

-- AN EMPTY BOX has no range
none_past : (n : Option CellRange) (a b c d : Bool) → cond a n (cond b n (cond c n (cond d n n))) ≡ n
none_past n true b c d = refl
none_past n false true c d = refl
none_past n false false true d = refl
none_past n false false false true = refl
none_past n false false false false = refl

none_by : (mc mr : ℕ) (c0 r0 c1 r1 : Float) → range_by mc mr true c0 r0 c1 r1 ≡ None
unfolding range_by
none_by mc mr c0 r0 c1 r1 = none_past None (lt c1 zero_f) (lt r1 zero_f) (lt (count_f mc) c0) (lt (count_f mr) r0)

pub empty_none : (g : Grid) (b : Aabb) → is_empty_of b ≡ true → range_of g b ≡ None
unfolding range_of
empty_none g b h = rw h (none_by _ _ _ _ _ _)

-- a cell's number fits a `usize`
pub cell_fits : (r n c : ℕ) → r < 2 ^ 32 → n < 2 ^ 32 → c < 2 ^ 32 → r * n + c < 2 ^ 64
cell_fits r n c h k l =
    let p : r ≤ 4294967295 = omega arith in
    let q : n ≤ 4294967295 = omega arith in
    let m : r * n ≤ 4294967295 * 4294967295 = mul-le-mul p q in
    omega arith
