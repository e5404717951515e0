-- DEMAND 3 OF THE BOX QUERY, over sound tables and fresh stamps: no id is listed twice; an id is listed exactly where it is an entry of a cell of
-- the box's range; the entries read are those that the range's cells hold. `tables` has it for the tables that building makes. Assumes nothing.
use Rattle.std.proofs.Common.{None, Some, Err}
use Prim.Native.Nat.{ℕ, suc, ◌+◌, ◌-◌, ◌*◌, ◌≤◌, ◌<◌}
use mathlib.Core.Path.{◌≡◌, refl, sym, ◌∙◌}
use mathlib.Core.Logic.{inl, inr, ⊎_elim}
use mathlib.Core.List.{List, [], ◌∷◌}
use mathlib.Core.Bool.{Bool, true, false}
use native.Mathlib.Omega.{arith}
use native.Mathlib.Nat.{add_assoc}
use lib.ListN.{length, get_or, set, replicate, length-set, length-replicate}
use lib.Seq.{get_or-set_same, get_or-set_other}
use lib.Dec.{eqb, ltb}
use borrow.Author.Tests.{eqb-true, eqb-false, lt-ltb, le-ltb}
use borrow.Rule.Slice.PartMut.{mid_len}
use Rattle.lists.specs.Lists.{joined, sum_to}
use Rattle.lists.specs.Parts.{padded}
use Rattle.lists.specs.Members.{In, NoDup, All, AllBelow}
use Rattle.lists.proofs.Sums.{sum_to_ext}
use Rattle.lists.proofs.Members.{at_all}
use Rattle.lists.proofs.Parts.{get_d_part}
use Rattle.lists.proofs.Stores.{get_d_set_either}
use Rattle.lists.proofs.Joined.{joined_in, in_joined, all_joined, length_joined}
use Rattle.geom.specs.declared.Aabb.{Aabb}
use Rattle.grid.specs.Range.{range_of, InGrid}
use Rattle.grid.specs.Stamps.{epoch_after, marks_begun, firsts, Fresh}
use Rattle.grid.specs.Entries.{cell_of, cells_from, rows_from, entries_in, entry_count, Inside, EntryOf, SoundGrid, Named}
use Rattle.grid.specs.Query.{Outcome, outcome_by, outcome, counted}
use Rattle.grid.specs.declared.CellRange.{CellRange}
use Rattle.grid.specs.declared.Grid.{Grid}
use Rattle.grid.proofs.Stamping.{seen_firsts, new_firsts, firsts_nil}
use Rattle.grid.proofs.Rows.{row_in, start_last, row_of}
use Rattle.grid.proofs.FreshStamps.{begun_bare, query_fresh}
use Rattle.refusal.specs.declared.Refusal.TheVariants.{NoListRoom}

-- ---- the first meetings among any entries

-- a mark after a store of e: e where it was e
set_mark : (m : List ℕ) (y x e : ℕ) → get_or m x 0 ≡ e → get_or (set m y e) x 0 ≡ e
set_mark m y x e h = get_d_set_either (λ (v : ℕ). v ≡ e) m y x e 0 refl h

-- what is listed is an entry
listed_by : (e : ℕ) (m : List ℕ) (x y : ℕ) (ys : List ℕ) (b : Bool) → eqb (get_or m y 0) e ≡ b
    → (In x (firsts e m ys) → In x ys) → (In x (firsts e (set m y e) ys) → In x ys) → In x (firsts e m (y ∷ ys)) → In x (y ∷ ys)
listed_by e m x y ys true t f g i = inr (f (rw (seen_firsts e m y ys (eqb-true _ _ t)) at i))
listed_by e m x y ys false t f g i = ⊎_elim inl (λ k. inr (g k)) (rw (new_firsts e m y ys (eqb-false _ _ t)) at i)

pub listed_in : (e : ℕ) (m : List ℕ) (x : ℕ) (xs : List ℕ) → In x (firsts e m xs) → In x xs
listed_in e m x [] i = rw firsts_nil at i
listed_in e m x (y ∷ ys) i = listed_by e m x y ys _ refl (listed_in e m x ys) (listed_in e (set m y e) x ys) i

-- and bore no stamp of the epoch
bare_by : (e : ℕ) (m : List ℕ) (x y : ℕ) (ys : List ℕ) (b : Bool) → eqb (get_or m y 0) e ≡ b
    → (In x (firsts e m ys) → get_or m x 0 ≡ e → ⊥) → (In x (firsts e (set m y e) ys) → get_or (set m y e) x 0 ≡ e → ⊥)
    → In x (firsts e m (y ∷ ys)) → get_or m x 0 ≡ e → ⊥
bare_by e m x y ys true t f g i h = f (rw (seen_firsts e m y ys (eqb-true _ _ t)) at i) h
bare_by e m x y ys false t f g i h =
    ⊎_elim (λ (k : x ≡ y). eqb-false _ _ t (rw k at h)) (λ k. g k (set_mark m y x e h)) (rw (new_firsts e m y ys (eqb-false _ _ t)) at i)

listed_bare : (e : ℕ) (m : List ℕ) (x : ℕ) (xs : List ℕ) → In x (firsts e m xs) → get_or m x 0 ≡ e → ⊥
listed_bare e m x [] i h = rw firsts_nil at i
listed_bare e m x (y ∷ ys) i h = bare_by e m x y ys _ refl (listed_bare e m x ys) (listed_bare e (set m y e) x ys) i h

-- an entry that bears none is listed
lists_by : (e : ℕ) (m : List ℕ) (x y : ℕ) (ys : List ℕ) (b d : Bool) → eqb (get_or m y 0) e ≡ b → eqb x y ≡ d
    → (In x ys → (get_or m x 0 ≡ e → ⊥) → In x (firsts e m ys))
    → (In x ys → (get_or (set m y e) x 0 ≡ e → ⊥) → In x (firsts e (set m y e) ys))
    → In x (y ∷ ys) → (get_or m x 0 ≡ e → ⊥) → In x (firsts e m (y ∷ ys))
lists_by e m x y ys true d t u f g i h =
    rw (seen_firsts e m y ys (eqb-true _ _ t))
    (⊎_elim (λ (k : x ≡ y). absurd (h (rw k (eqb-true _ _ t)))) (λ k. f k h) i)
lists_by e m x y ys false true t u f g i h = rw (new_firsts e m y ys (eqb-false _ _ t)) (inl (eqb-true _ _ u))
lists_by e m x y ys false false t u f g i h =
    rw (new_firsts e m y ys (eqb-false _ _ t))
    (⊎_elim (λ k. inl k) (λ k. inr (g k (λ z. h (sym (get_or-set_other m y x e 0 (eqb-false _ _ u)) ∙ z)))) i)

in_listed : (e : ℕ) (m : List ℕ) (x : ℕ) (xs : List ℕ) → In x xs → (get_or m x 0 ≡ e → ⊥) → In x (firsts e m xs)
in_listed e m x [] i h = absurd i
in_listed e m x (y ∷ ys) i h = lists_by e m x y ys _ _ refl refl (in_listed e m x ys) (in_listed e (set m y e) x ys) i h

-- no id is listed twice
once_by : (e : ℕ) (m : List ℕ) (y : ℕ) (ys : List ℕ) (b : Bool) → eqb (get_or m y 0) e ≡ b → y < length m
    → NoDup (firsts e m ys) → NoDup (firsts e (set m y e) ys) → NoDup (firsts e m (y ∷ ys))
once_by e m y ys true t h f g = rw (seen_firsts e m y ys (eqb-true _ _ t)) f
once_by e m y ys false t h f g =
    rw (new_firsts e m y ys (eqb-false _ _ t)) ((λ i. listed_bare e (set m y e) y ys i (get_or-set_same m y e 0 h)), g)

listed_once : (e : ℕ) (m xs : List ℕ) → AllBelow (length m) xs → NoDup (firsts e m xs)
listed_once e m [] b = rw firsts_nil tt
listed_once e m (y ∷ ys) b =
    once_by e m y ys _ refl b.0 (listed_once e m ys b.1) (listed_once e (set m y e) ys (rw length-set b.1))

-- ---- the entries of a range are those of its cells

-- a range's row and column, from its first on
inside : (r : CellRange) (j i : ℕ) → j < suc r.r1 - r.r0 → i < suc r.c1 - r.c0 → Inside r (r.r0 + j) (r.c0 + i)
inside r j i h k = record { below_row = omega arith; above_row = omega arith; below_col = omega arith; above_col = omega arith }

pub entries_in_lem : (g : Grid) (r : CellRange) (starts items : List ℕ) (x : ℕ) → In x (entries_in g r starts items) → EntryOf g r starts items x
unfolding entries_in rows_from cells_from
entries_in_lem g r starts items x h =
    let (j, k, u) = joined_in x (λ j. joined (λ i. cell_of starts items ((r.r0 + j) * g.cols + r.c0 + i)) (suc r.c1 - r.c0)) (suc r.r1 - r.r0) h in
    let (i, l, v) = joined_in x (λ i. cell_of starts items ((r.r0 + j) * g.cols + r.c0 + i)) (suc r.c1 - r.c0) u in
    (r.r0 + j, r.c0 + i, inside r j i k l, rw add_assoc at v)

pub in_entries : (g : Grid) (r : CellRange) (starts items : List ℕ) (x : ℕ) → EntryOf g r starts items x → In x (entries_in g r starts items)
unfolding entries_in rows_from cells_from
in_entries g r starts items x (row, col, o, h) =
    let e : r.r0 + (row - r.r0) ≡ row = omega (arith, o.below_row) in
    let f : row * g.cols + r.c0 + (col - r.c0) ≡ row * g.cols + col = omega (arith, o.below_col) in
    in_joined x (λ j. joined (λ i. cell_of starts items ((r.r0 + j) * g.cols + r.c0 + i)) (suc r.c1 - r.c0)) (suc r.r1 - r.r0) (row - r.r0)
    (omega (arith, o.below_row, o.above_row))
    (in_joined x (λ i. cell_of starts items ((r.r0 + (row - r.r0)) * g.cols + r.c0 + i)) (suc r.c1 - r.c0) (col - r.c0)
    (omega (arith, o.below_col, o.above_col)) (rw (e, f) h))

-- how many they are
pub entries_count : (g : Grid) (r : CellRange) (starts items : List ℕ) → length (entries_in g r starts items) ≡ entry_count g r starts items
unfolding entries_in rows_from cells_from entry_count
entries_count g r starts items =
    length_joined (λ j. joined (λ i. cell_of starts items ((r.r0 + j) * g.cols + r.c0 + i)) (suc r.c1 - r.c0)) (suc r.r1 - r.r0)
    ∙ sum_to_ext (λ j. length (joined (λ i. cell_of starts items ((r.r0 + j) * g.cols + r.c0 + i)) (suc r.c1 - r.c0)))
    (λ j. sum_to (λ i. length (cell_of starts items ((r.r0 + j) * g.cols + r.c0 + i))) (suc r.c1 - r.c0)) (suc r.r1 - r.r0)
    (λ j h. length_joined (λ i. cell_of starts items ((r.r0 + j) * g.cols + r.c0 + i)) (suc r.c1 - r.c0))

-- a cell's entries are items, so they have what all items have
pub cell_all : {cols rows : ℕ} {starts items : List ℕ} (P : ℕ → Type 0) (c : ℕ) → SoundGrid cols rows starts items → ((i : ℕ) → i < get_or starts (cols * rows) 0 → P (get_or items i 0)) → c < cols * rows → All P (cell_of starts items c)
cell_all {cols} {rows} {starts} {items} P c s has h =
    let o = row_of s c 1 (omega arith) in
    let z : get_or starts (suc c) 0 ≤ get_or starts (cols * rows) 0 = start_last s (suc c) h in
    at_all P (cell_of starts items c) 0
    (λ i k.
    let l : i < get_or starts (suc c) 0 - get_or starts c 0 = omega (arith, k, mid_len (get_or starts c 0) (get_or starts (suc c) 0) items (omega (arith, s.last))) in
    rw (get_d_part (get_or starts c 0) (get_or starts (suc c) 0) items i 0 l) (has (get_or starts c 0 + i) (omega arith)))

-- they are ids
pub cell_named : {cols rows : ℕ} {starts items : List ℕ} (n c : ℕ) → SoundGrid cols rows starts items → Named (cols * rows) starts items n → c < cols * rows → AllBelow n (cell_of starts items c)
cell_named n = cell_all (λ (x : ℕ). x < n)

entries_named : (g : Grid) (r : CellRange) (starts items : List ℕ) (n : ℕ) → InGrid g r → SoundGrid g.cols g.rows starts items → Named (g.cols * g.rows) starts items n
    → AllBelow n (entries_in g r starts items)
unfolding entries_in rows_from cells_from
entries_named g r starts items n o s ids =
    all_joined (λ (x : ℕ). x < n) (λ j. joined (λ i. cell_of starts items ((r.r0 + j) * g.cols + r.c0 + i)) (suc r.c1 - r.c0)) (suc r.r1 - r.r0)
    (λ j h. all_joined (λ (x : ℕ). x < n) (λ i. cell_of starts items ((r.r0 + j) * g.cols + r.c0 + i)) (suc r.c1 - r.c0)
    (λ i k. cell_named n ((r.r0 + j) * g.cols + r.c0 + i) s ids
    (omega (arith, row_in g.cols g.rows r.c0 (suc i) (r.r0 + j) (omega (arith, o.r1_in)) (omega (arith, o.c1_in))))))

-- ---- the whole

-- a query's outcome o, over the range r and with room for k ids
pub record Fair (g : Grid) (r : CellRange) (starts items : List ℕ) (k : ℕ) (o : Outcome) : Type 0 where
  -- the ids, in the order of their first meeting: none twice, and exactly those that are entries of the range's cells
  pub found : List ℕ
  pub once : NoDup found
  pub only : (x : ℕ) → In x found → EntryOf g r starts items x
  pub every : (x : ℕ) → EntryOf g r starts items x → In x found
  -- they are listed, with as many entries read as the cells hold, and zeros after them
  pub fits : length found ≤ k → (o.answer ≡ counted (length found) (entry_count g r starts items)) × (o.ids ≡ padded 0 k found)
  -- or refused, where there is no room for them
  pub over : k < length found → (o.answer ≡ Err NoListRoom) × (o.ids ≡ replicate k 0)
  -- and the stamps serve the next query
  pub again : Fresh o.epoch o.marks

pub begun_length : (e : ℕ) (m : List ℕ) (b : Bool) → ltb e 4294967295 ≡ b → length (marks_begun e m) ≡ length m
begun_length e m true t = rw t
begun_length e m false t = rw t (length-replicate (length m) 0)

-- THE BOX QUERY over sound tables and fresh stamps
pub fair_query : (g : Grid) (b : Aabb) (r : CellRange) (starts items m : List ℕ) (e k : ℕ) → range_of g b ≡ Some r → InGrid g r
    → SoundGrid g.cols g.rows starts items → Named (g.cols * g.rows) starts items (length m) → Fresh e m
    → Fair g r starts items k (outcome g b starts items m e k)
unfolding outcome outcome_by
fair_query g b r starts items m e k is o s ids f =
    let xs = entries_in g r starts items in
    let fs = firsts (epoch_after e) (marks_begun e m) xs in
    record {
      found = fs;
      once = listed_once (epoch_after e) (marks_begun e m) xs (rw (begun_length e m _ refl) (entries_named g r starts items (length m) o s ids));
      only = λ x h. entries_in_lem g r starts items x (listed_in (epoch_after e) (marks_begun e m) x xs h);
      every = λ x h. in_listed (epoch_after e) (marks_begun e m) x xs (in_entries g r starts items x h) (λ q. omega (arith, begun_bare e m f x));
      fits = λ h. rw is (rw (le-ltb k (length fs) h, entries_count g r starts items) (refl, refl));
      over = λ h. rw is (rw (lt-ltb k (length fs) h) (refl, refl));
      again = query_fresh g b starts items m e k f;
    }

-- a box without a range lists nothing, reads nothing and changes no stamp
pub no_range : (g : Grid) (b : Aabb) (starts items m : List ℕ) (e k : ℕ) → range_of g b ≡ None
    → outcome g b starts items m e k ≡ record { answer = counted 0 0; marks = m; epoch = e; ids = replicate k 0 }
unfolding outcome outcome_by
no_range g b starts items m e k is = rw is
