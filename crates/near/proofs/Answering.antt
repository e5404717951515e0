-- From gathered keys to the answer: in order they are the list, and the cells counted are the entries. Assumes nothing.
use Rattle.std.proofs.Common.{Option, Some, Err}
use mathlib.Core.Path.{◌≡◌, sym, ap, ◌∙◌}
use mathlib.Core.Bool.{true, false}
use mathlib.Core.List.{List, [], ◌∷◌, ◌++◌, map-append}
use Prim.Native.Nat.{ℕ, ◌+◌, ◌-◌, ◌%◌, ◌≤◌, ◌<◌}
use native.Mathlib.Nat.{le_trans, le_of_eq}
use native.Mathlib.Numerals.{add-one}
use native.Mathlib.Omega.{arith}
use lib.Dec.{ltb}
use lib.ListN.{length, get_or, set, take, replicate, length-map}
use lib.Seq.{take-suc, take-suc-set}
use borrow.Author.Tests.{lt-ltb, le-ltb}
use Rattle.lists.specs.Lists.{counting, filter}
use Rattle.lists.specs.Parts.{part}
use Rattle.lists.proofs.Counting.{length_filter_le, length_counting}
use Rattle.lists.proofs.Parts.{part_first}
use Rattle.sorts.specs.Sort.{sort}
use Rattle.sorts.specs.Fronts.{Ordered}
use Rattle.sorts.proofs.Merging.{length_sort}
use Rattle.grid.specs.declared.CellRange.{CellRange}
use Rattle.tables.specs.Tables.{held_in}
use Rattle.near.specs.declared.Gathered.{Gathered}
use Rattle.near.specs.Shared.{near_of}
use Rattle.near.specs.Outcome.{Is, outcome_in}
use Rattle.near.specs.Keys.{id_span, shares, key_of, keys_from, ids_of, Gathers}
use Rattle.near.proofs.SharedCells.{held_cells}
use Rattle.near.proofs.SortedKeys.{sorted_near}
use Rattle.refusal.specs.declared.Refusal.TheVariants.{NoListRoom}
use Rattle.grid.specs.Query.{counted}

-- ---- the loop that writes the ids
pub write_next : (keys ids : List ℕ) (i : ℕ) → i < length keys → i < length ids → take i ids ≡ ids_of (take i keys) → take (i + 1) (set ids i (get_or keys i 0 % id_span)) ≡ ids_of (take (i + 1) keys)
write_next keys ids i h k e =
    rw (add-one, take-suc-set ids i (get_or keys i 0 % id_span) k, take-suc keys i 0 h, e) (sym (map-append (λ key. key % id_span) (take i keys) (get_or keys i 0 ∷ [])))

module _ (span : ℕ → (Option CellRange)) (cols n : ℕ) (q : CellRange) (below : q.c1 < cols) (few : n ≤ 4096) (t : Gathered) (keys : List ℕ) (g : Gathers span cols q n t keys) where
  -- as many keys as ids in the list, and no more than polygons
  found_near : t.found ≡ length (near_of span n (Some q))
  found_near =
      g.found_is
      ∙ sym (length_sort ltb (keys_from span cols q 0 n))
      ∙ sym (length-map (sort ltb (keys_from span cols q 0 n)) (λ key. key % id_span))
      ∙ ap length (sorted_near span cols n q below few)

  pub found_few : t.found ≤ n
  found_few =
      omega (arith, g.found_is, length-map (filter (shares span cols q) (counting 0 n)) (key_of span cols q), length_filter_le (shares span cols q) (counting 0 n), length_counting 0 n)

  pub refused : (k : ℕ) (ids : List ℕ) → k < t.found → ids ≡ replicate k 0 → Is (outcome_in span n cols (Some q) k) (Err NoListRoom) ids
  refused k ids h e =
      let l : ltb k (length (near_of span n (Some q))) ≡ true = lt-ltb k _ (le_trans h (le_of_eq found_near)) in
      record { answer_is = rw l; ids_are = rw l e }

  -- the first keys, after the sort
  front : (keys' : List ℕ) → Ordered (sort ltb (part 0 (0 + t.found) keys)) 0 6144 keys keys' → take t.found keys' ≡ sort ltb (keys_from span cols q 0 n)
  front keys' o =
      let z : 0 + t.found ≡ t.found = omega arith in
      let p : part 0 (0 + t.found) keys ≡ keys_from span cols q 0 n = part_first (0 + t.found) keys ∙ ap (λ (m : ℕ). take m keys) z ∙ g.keys_are in
      let l : length (sort ltb (part 0 (0 + t.found) keys)) ≡ t.found = length_sort ltb (part 0 (0 + t.found) keys) ∙ ap length p ∙ sym g.found_is in
      ap (λ (m : ℕ). take m keys') (sym l) ∙ o.list ∙ ap (sort ltb) p

  pub answered : (k : ℕ) (keys' ids ids' : List ℕ) → t.found ≤ k → Ordered (sort ltb (part 0 (0 + t.found) keys)) 0 6144 keys keys' → take t.found ids ≡ ids_of (take t.found keys') → length ids ≡ k
      → ids' ≡ take t.found ids ++ replicate (length ids - t.found) 0 → Is (outcome_in span n cols (Some q) k) (counted t.found t.cells) ids'
  answered k keys' ids ids' h o w e f =
      let l : ltb k (length (near_of span n (Some q))) ≡ false = le-ltb k _ (le_trans (le_of_eq (sym found_near)) h) in
      let c : t.cells ≡ held_in span n cols (Some q) = g.cells_are ∙ sym (held_cells cols q below span n) in
      let d : take t.found ids ≡ near_of span n (Some q) = w ∙ ap ids_of (front keys' o) ∙ sorted_near span cols n q below few in
      record { answer_is = rw (l, ← found_near, ← c); ids_are = rw l (f ∙ rw (d, e, found_near)) }
