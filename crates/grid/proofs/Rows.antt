-- Where a row's cells lie in sound tables: they are one part of the items. Assumes nothing.
use Prim.Native.Nat.{ℕ, suc, ◌+◌, ◌-◌, ◌*◌, ◌≤◌, ◌<◌, min}
use mathlib.Core.Path.{◌≡◌, refl, ap, sym, ◌∙◌}
use mathlib.Core.List.{List, [], ◌++◌}
use native.Mathlib.Omega.{arith}
use native.Mathlib.Numerals.{add-one}
use native.Mathlib.Nat.{le_of_lt, add-zero, add-suc, mul_comm, suc-mul, mul-le-mul_right}
use mathlib.Core.Logic.{⊎_elim}
use lib.ListN.{length, get_or, drop, length-drop, get_or-eq_default}
use lib.Seq.{take_all}
use Rattle.lists.proofs.Cases.{lt_or_le}
use Rattle.lists.proofs.Parts.{part_rest, part_none}
use borrow.Rule.Slice.PartMut.{mid_len}
use Rattle.lists.specs.Parts.{part}
use Rattle.lists.specs.Members.{Rises}
use Rattle.lists.proofs.Members.{rises_sub, rises_le}
use Rattle.lists.proofs.Joined.{joined_first, joined_ext, joined_parts}
use Rattle.grid.specs.Entries.{cell_of, cells_from, rows_from, SoundGrid, RowIn, row_part}

-- the next row
pub rows_cons : (starts items : List ℕ) (cols c n r k : ℕ)
    → rows_from starts items cols c n r (suc k) ≡ cells_from starts items (r * cols + c) n ++ rows_from starts items cols c n (r + 1) k
unfolding rows_from
rows_cons starts items cols c n r k =
    joined_first (λ j. cells_from starts items ((r + j) * cols + c) n) k
    ∙ rw add-zero
    (ap (◌++◌ (cells_from starts items (r * cols + c) n))
    (joined_ext (λ j. cells_from starts items ((r + suc j) * cols + c) n) (λ j. cells_from starts items ((r + 1 + j) * cols + c) n) k
    (λ j h. let e : r + suc j ≡ r + 1 + j = omega arith in rw e)))

pub rows_nil : (starts items : List ℕ) (cols c n r : ℕ) → rows_from starts items cols c n r 0 ≡ []
unfolding rows_from
rows_nil starts items cols c n r = refl

-- cells whose starts do not fall are one part of the items
pub cells_part : (starts items : List ℕ) (c n : ℕ) → Rises starts c n → cells_from starts items c n ≡ row_part starts items c n
unfolding cells_from row_part
cells_part starts items c n r =
    joined_ext (λ k. cell_of starts items (c + k)) (λ k. part (get_or starts (c + k) 0) (get_or starts (c + suc k) 0) items) n (λ k h. rw add-suc)
    ∙ joined_parts (λ k. get_or starts (c + k) 0) items n (λ k h. rw add-suc (r (c + k) (omega arith) (omega arith)))
    ∙ rw add-zero

-- a part ends where its list ends
pub part_cap : (a z : ℕ) (l : List ℕ) → part a (min z (length l)) l ≡ part a z l
part_cap a z l =
    ⊎_elim
    (λ (h : z < length l). let e : min z (length l) ≡ z = omega arith in rw e)
    (λ (h : length l ≤ z). let e : min z (length l) ≡ length l = omega arith in
    rw (e, part_rest) (sym (take_all (z - a) (drop a l) (rw length-drop (omega arith)))))
    (lt_or_le z (length l))

-- `cell_items`: a cell past the table, a part that is turned round, and a part
pub cell_past : (starts items : List ℕ) (c : ℕ) → length starts ≤ c → [] ≡ cell_of starts items c
cell_past starts items c h = rw (get_or-eq_default starts 0 {n = c} h, get_or-eq_default starts 0 {n = suc c} (omega arith))

module _ (starts items : List ℕ) (c a z y : ℕ) (p : a ≡ get_or starts c 0) (q : z ≡ get_or starts (c + 1) 0) (r : y ≡ min z (length items)) where
  pub cell_part : part a y items ≡ cell_of starts items c
  cell_part = rw (r, part_cap, p, q, add-one)

  pub cell_none : y < a → [] ≡ cell_of starts items c
  cell_none h = sym (part_none a y items (le_of_lt h)) ∙ cell_part

-- n cells from column c of row r end in the grid
pub row_in : (cols rows c n r : ℕ) → r < rows → c + n ≤ cols → (r * cols + c) + n ≤ cols * rows
row_in cols rows c n r h k = omega (arith, mul-le-mul_right cols h, suc-mul r cols, mul_comm cols rows)

pub part_len : (starts items : List ℕ) (c n : ℕ) → RowIn starts items c n → length (row_part starts items c n) ≡ get_or starts (c + n) 0 - get_or starts c 0
unfolding row_part
part_len starts items c n r = mid_len (get_or starts c 0) (get_or starts (c + n) 0) items r.within

module _ {cols rows : ℕ} {starts items : List ℕ} (s : SoundGrid cols rows starts items) where
  sub_rise : (c n : ℕ) → c + n ≤ cols * rows → Rises starts c n
  sub_rise c n h = rises_sub starts 0 (cols * rows) c n (omega arith) (omega arith) s.rise

  -- starts do not fall
  pub start_le : (c n : ℕ) → c + n ≤ cols * rows → get_or starts c 0 ≤ get_or starts (c + n) 0
  start_le c n h = rises_le starts c n (sub_rise c n h)

  -- nor pass the last
  pub start_last : (c : ℕ) → c ≤ cols * rows → get_or starts c 0 ≤ get_or starts (cols * rows) 0
  start_last c h =
      let e : c + (cols * rows - c) ≡ cols * rows = omega arith in
      rw e at (start_le c (cols * rows - c) (omega arith))

  -- n cells from c on, where they end in the grid
  pub row_of : (c n : ℕ) → c + n ≤ cols * rows → RowIn starts items c n
  row_of c n h = record {
    inside = omega (arith, s.starts_len);
    ordered = start_le c n h;
    within = omega (arith, start_last (c + n) h, s.last);
  }

  pub part_of : (c n : ℕ) → c + n ≤ cols * rows → cells_from starts items c n ≡ row_part starts items c n
  part_of c n h = cells_part starts items c n (sub_rise c n h)
