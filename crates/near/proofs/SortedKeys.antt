-- THE KEYS IN ORDER ARE THE LIST: one number holds a first shared cell and an id, so that the numbers' order is the order by cell and then id. Assumes nothing.
use Rattle.std.proofs.Common.{None, Option, Some}
use mathlib.Core.Path.{◌≡◌, refl, sym, ap, ◌∙◌}
use mathlib.Core.Bool.{true, and-eq-true_iff, false≢true}
use mathlib.Core.List.{List, [], ◌∷◌, ◌++◌, map, map-append}
use Prim.Native.Nat.{ℕ, zero, suc, ◌+◌, ◌-◌, ◌*◌, ◌%◌, ◌≤◌, ◌<◌, min, max}
use native.Mathlib.Nat.{add-suc, suc-mul, mul-add-mod_self_right, mod-eq_of_lt}
use native.Mathlib.Omega.{arith}
use lib.Dec.{ltb, leb}
use borrow.Author.Tests.{leb-true, le-leb}
use Rattle.lists.specs.Lists.{counting, filter, joined}
use Rattle.lists.specs.Members.{In, NoDup, All}
use Rattle.lists.proofs.Members.{in_all, in_map, from_map}
use Rattle.lists.proofs.Counting.{counting_in, nodup_counting, nodup_filter, filter_in, in_filter}
use Rattle.lists.proofs.Joined.{joined_ext, joined_in, in_joined}
use Rattle.grid.specs.declared.CellRange.{CellRange}
use Rattle.sorts.specs.Sort.{sort}
use Rattle.sorts.proofs.Climbing.{Climbs}
use Rattle.near.specs.Shared.{shared, meet, has_cell, is_first, first_here, near_of}
use Rattle.near.specs.Keys.{id_span, first_cell, key_at, key_of, shares, keys_from, ids_of}
use Rattle.near.proofs.FirstCells.{first_to, first_from}
use Rattle.near.proofs.Climbing.{sorted_is, Between, climb_joined, climb_map, climb_ids, nodup_map}

-- ---- a key tells its id
id_of : (cell id : ℕ) → id < 4096 → key_at cell id % 4096 ≡ id
id_of cell id h = mul-add-mod_self_right cell 4096 id ∙ mod-eq_of_lt h

-- ---- mapped parts
map_joined : (f : ℕ → ℕ) (g : ℕ → List ℕ) (n : ℕ) → map f (joined g n) ≡ joined (λ k. map f (g k)) n
map_joined f g zero = refl
map_joined f g (suc n) = map-append f (joined g n) (g n) ∙ ap (λ (l : List ℕ). l ++ map f (g n)) (map_joined f g n)

map_back : (f : ℕ → ℕ) (g : ℕ → ℕ) (l : List ℕ) → All (λ x. f (g x) ≡ x) l → map f (map g l) ≡ l
map_back f g [] h = refl
map_back f g (x ∷ l) h = rw (h.0, map_back f g l h.1)

module _ (span : ℕ → (Option CellRange)) (cols n : ℕ) (q : CellRange) (below : q.c1 < cols) (few : n ≤ 4096) where
  -- the keys of the ids whose first shared cell is this one, and of a row of cells
  abbrev here : ℕ → ℕ → List ℕ
  here row col = map (key_at (row * cols + col)) (first_here span n q row col)

  abbrev row_keys : ℕ → List ℕ
  row_keys j = joined (λ i. here (q.r0 + j) (q.c0 + i)) (suc q.c1 - q.c0)

  abbrev all_keys : List ℕ
  all_keys = joined row_keys (suc q.r1 - q.r0)

  id_below : (row col x : ℕ) → In x (first_here span n q row col) → x < n
  id_below row col x i = omega (arith, counting_in x 0 n (filter_in (λ id. is_first (meet (span id) q) row col) x (counting 0 n) i).0)

  -- ---- their ids are the list
  here_ids : (row col : ℕ) → ids_of (here row col) ≡ first_here span n q row col
  here_ids row col =
      map_back (λ key. key % id_span) (key_at (row * cols + col)) (first_here span n q row col)
      (in_all _ (first_here span n q row col) (λ x i. id_of (row * cols + col) x (omega (arith, id_below row col x i))))

  all_ids : ids_of all_keys ≡ near_of span n (Some q)
  unfolding near_of
  all_ids =
      map_joined (λ key. key % id_span) row_keys (suc q.r1 - q.r0)
      ∙ joined_ext (λ j. ids_of (row_keys j)) (λ j. joined (λ i. first_here span n q (q.r0 + j) (q.c0 + i)) (suc q.c1 - q.c0)) (suc q.r1 - q.r0)
      (λ j l.
      map_joined (λ key. key % id_span) (λ i. here (q.r0 + j) (q.c0 + i)) (suc q.c1 - q.c0)
      ∙ joined_ext (λ i. ids_of (here (q.r0 + j) (q.c0 + i))) (λ i. first_here span n q (q.r0 + j) (q.c0 + i)) (suc q.c1 - q.c0) (λ i k. here_ids (q.r0 + j) (q.c0 + i)))

  -- ---- they climb
  here_between : (row col : ℕ) → Between ((row * cols + col) * 4096) ((row * cols + suc col) * 4096) (here row col)
  here_between row col = record {
    climbs = climb_map (key_at (row * cols + col)) (λ x y h. omega arith) (first_here span n q row col) (climb_ids (λ id. is_first (meet (span id) q) row col) n);
    from = λ z i. let (x, k, e) = from_map (key_at (row * cols + col)) z (first_here span n q row col) i in omega arith;
    upto = λ z i. let (x, k, e) = from_map (key_at (row * cols + col)) z (first_here span n q row col) i in omega (arith, id_below row col x k);
  }

  next : (j : ℕ) → (q.r0 + suc j) * cols ≡ (q.r0 + j) * cols + cols
  next j = rw (add-suc q.r0 j) (suc-mul (q.r0 + j) cols)

  row_between : (j : ℕ) → Between (((q.r0 + j) * cols + q.c0) * 4096) (((q.r0 + suc j) * cols + q.c0) * 4096) (row_keys j)
  row_between j =
      let b = climb_joined (λ i. here (q.r0 + j) (q.c0 + i)) (λ i. ((q.r0 + j) * cols + (q.c0 + i)) * 4096) (suc q.c1 - q.c0) (λ i l. rw (add-suc q.c0 i) (here_between (q.r0 + j) (q.c0 + i))) (λ i l. omega arith) in
      record { climbs = b.climbs; from = λ x i. omega (arith, b.from x i); upto = λ x i. omega (arith, b.upto x i, next j) }

  all_climb : Climbs ltb all_keys
  all_climb = (climb_joined row_keys (λ j. ((q.r0 + j) * cols + q.c0) * 4096) (suc q.r1 - q.r0) (λ j l. row_between j) (λ j l. omega (arith, next j))).climbs

  -- ---- their members are the keys
  corner : (s : (Option CellRange)) (row col : ℕ) → is_first (meet s q) row col ≡ true → (has_cell (meet s q) ≡ true) × (first_cell cols (meet s q) ≡ row * cols + col)
  corner None row col h = absurd (false≢true h)
  corner (Some p) row col h =
      let f = first_to (shared p q) row col h in
      (rw (le-leb _ _ f.wide, le-leb _ _ f.high), rw (f.row_is, f.col_is))

  -- the row and column of a first shared cell, counted from the box's first
  pub record Place (s : (Option CellRange)) : Type 0 where
    pub row : ℕ
    pub col : ℕ
    pub row_below : row < suc q.r1 - q.r0
    pub col_below : col < suc q.c1 - q.c0
    pub first : is_first (meet s q) (q.r0 + row) (q.c0 + col) ≡ true

  pub place : (s : (Option CellRange)) → has_cell (meet s q) ≡ true → Place s
  place None h = absurd (false≢true h)
  place (Some p) h =
      let a = (and-eq-true_iff (leb (max p.c0 q.c0) (min p.c1 q.c1)) (leb (max p.r0 q.r0) (min p.r1 q.r1))).0 h in
      let w : max p.c0 q.c0 ≤ min p.c1 q.c1 = leb-true _ _ a.0 in
      let v : max p.r0 q.r0 ≤ min p.r1 q.r1 = leb-true _ _ a.1 in
      record {
        row = max p.r0 q.r0 - q.r0;
        col = max p.c0 q.c0 - q.c0;
        row_below = omega arith;
        col_below = omega arith;
        first = first_from (shared p q) _ _ (record { wide = w; high = v; row_is = omega arith; col_is = omega arith });
      }

  to_all : (z : ℕ) → In z (keys_from span cols q 0 n) → In z all_keys
  to_all z i =
      let (x, k, e) = from_map (key_of span cols q) z (filter (shares span cols q) (counting 0 n)) i in
      let m = filter_in (shares span cols q) x (counting 0 n) k in
      let o = place (span x) m.1 in
      let f : first_cell cols (meet (span x) q) ≡ (q.r0 + o.row) * cols + (q.c0 + o.col) = (corner (span x) (q.r0 + o.row) (q.c0 + o.col) o.first).1 in
      let y : In (key_at ((q.r0 + o.row) * cols + (q.c0 + o.col)) x) (here (q.r0 + o.row) (q.c0 + o.col)) =
      in_map (key_at ((q.r0 + o.row) * cols + (q.c0 + o.col))) x (first_here span n q (q.r0 + o.row) (q.c0 + o.col))
      (in_filter (λ id. is_first (meet (span id) q) (q.r0 + o.row) (q.c0 + o.col)) x (counting 0 n) m.0 o.first) in
      rw (← e, f) (in_joined _ row_keys (suc q.r1 - q.r0) o.row o.row_below (in_joined _ (λ i. here (q.r0 + o.row) (q.c0 + i)) (suc q.c1 - q.c0) o.col o.col_below y))

  one_key : (z row col x : ℕ) → In x (first_here span n q row col) → key_at (row * cols + col) x ≡ z → In z (keys_from span cols q 0 n)
  one_key z row col x k e =
      let m = filter_in (λ id. is_first (meet (span id) q) row col) x (counting 0 n) k in
      let f = corner (span x) row col m.1 in
      rw (← e, ← f.1) (in_map (key_of span cols q) x (filter (shares span cols q) (counting 0 n)) (in_filter (shares span cols q) x (counting 0 n) m.0 f.0))

  from_all : (z : ℕ) → In z all_keys → In z (keys_from span cols q 0 n)
  from_all z i =
      let (row, a, b) = joined_in z row_keys (suc q.r1 - q.r0) i in
      let (col, c, d) = joined_in z (λ i. here (q.r0 + row) (q.c0 + i)) (suc q.c1 - q.c0) b in
      let (x, k, e) = from_map (key_at ((q.r0 + row) * cols + (q.c0 + col))) z (first_here span n q (q.r0 + row) (q.c0 + col)) d in
      one_key z (q.r0 + row) (q.c0 + col) x k e

  -- no key is there twice
  pub key_id : (x : ℕ) → In x (filter (shares span cols q) (counting 0 n)) → key_of span cols q x % 4096 ≡ x
  key_id x i = id_of (first_cell cols (meet (span x) q)) x (omega (arith, counting_in x 0 n (filter_in (shares span cols q) x (counting 0 n) i).0))

  pub keys_once : NoDup (keys_from span cols q 0 n)
  keys_once =
      nodup_map (key_of span cols q) (filter (shares span cols q) (counting 0 n)) (nodup_filter (shares span cols q) (counting 0 n) (nodup_counting 0 n))
      (λ x y i k e. sym (key_id x i) ∙ ap (λ (z : ℕ). z % 4096) e ∙ key_id y k)

  -- THE LIST by keys
  pub sorted_near : ids_of (sort ltb (keys_from span cols q 0 n)) ≡ near_of span n (Some q)
  sorted_near = ap ids_of (sorted_is (keys_from span cols q 0 n) all_keys keys_once all_climb to_all from_all) ∙ all_ids
