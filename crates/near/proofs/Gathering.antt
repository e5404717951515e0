-- The loop that gathers the keys: one polygon more, and what is left. Assumes nothing.
use Rattle.std.proofs.Common.{None, Option, Some}
use mathlib.Core.Path.{◌≡◌, refl, sym, ap, ◌∙◌}
use mathlib.Core.Bool.{Bool, true, false}
use mathlib.Core.List.{List, [], ◌∷◌, ◌++◌, map, append-nil, append_assoc}
use Prim.Native.Nat.{ℕ, suc, ◌+◌, ◌-◌, ◌*◌, ◌≤◌, ◌<◌, min, max}
use native.Mathlib.Nat.{mul-le-mul, le_trans}
use native.Mathlib.Numerals.{add-one}
use native.Mathlib.Omega.{arith}
use lib.ListN.{length, set, take, length-set}
use lib.Seq.{take-suc-set, take-set-le, length-take-le}
use Rattle.lists.specs.Lists.{bit, cons_if, counting, filter, sum_over}
use Rattle.lists.proofs.Counting.{bit_le, counting_up, counting_none, counting_all, filter_up}
use Rattle.grid.specs.declared.CellRange.{CellRange}
use Rattle.grid.specs.declared.Grid.{Grid}
use Rattle.grid.specs.Range.{InGrid}
use Rattle.grid.proofs.Rows.{row_in}
use Rattle.tables.specs.Tables.{area_of}
use Rattle.near.specs.declared.Gathered.{Gathered}
use Rattle.near.specs.Shared.{meet, has_cell}
use Rattle.near.specs.Keys.{first_cell, key_at, key_of, shares, keys_from, cells_from, Askable, SmallIn, key_put, GathersOne, Gathers}

-- ---- how many cells a range has
pub area_is : (r : CellRange) (w h : ℕ) → w ≡ suc r.c1 - r.c0 → h ≡ suc r.r1 - r.r0 → w * h ≡ area_of (Some r)
area_is r w h a b =
    let x : w ≡ r.c1 + 1 - r.c0 = omega arith in
    let y : h ≡ r.r1 + 1 - r.r0 = omega arith in
    rw (x, y)

-- ---- one polygon
module _ (cols id : ℕ) (t : Gathered) (keys : List ℕ) where
  pub one_nothing : (s : (Option CellRange)) → s ≡ None → GathersOne cols s id t keys t keys
  one_nothing s e = rw e (record { found_next = omega arith; cells_next = omega arith; keys_next = refl })

  pub one_more : (r : CellRange) (k one area : ℕ) (keys' : List ℕ) → k ≡ key_at (first_cell cols (Some r)) id → one ≡ bit (has_cell (Some r)) → area ≡ area_of (Some r) → keys' ≡ set keys t.found k
      → GathersOne cols (Some r) id t keys (record { found = t.found + one; cells = t.cells + area }) keys'
  one_more r k one area keys' e b f g = record { found_next = ap (◌+◌ t.found) b; cells_next = ap (◌+◌ t.cells) f; keys_next = g ∙ ap (set keys t.found) e }

  pub one_same : (s : (Option CellRange)) (r : CellRange) (u : Gathered) (keys' : List ℕ) → s ≡ Some r → GathersOne cols (Some r) id t keys u keys' → GathersOne cols s id t keys u keys'
  one_same s r u keys' e g = rw e g

-- the list of keys stays as long
pub one_long : (cols : ℕ) (s : (Option CellRange)) (id : ℕ) (t : Gathered) (keys : List ℕ) (u : Gathered) (keys' : List ℕ) → GathersOne cols s id t keys u keys' → length keys' ≡ length keys
one_long cols None id t keys u keys' g = ap length g.keys_next
one_long cols (Some r) id t keys u keys' g = ap length g.keys_next ∙ simp length-set

-- ---- what the box's range shares with a polygon's is within the limits
module _ (g : Grid) (q : CellRange) (n : ℕ) (a : Askable g q n) where
  pub area_small : (s : (Option CellRange)) → area_of (meet s q) ≤ 1048576
  area_small None = omega arith
  area_small (Some p) =
      let w : min p.c1 q.c1 + 1 - max p.c0 q.c0 ≤ g.cols = omega (arith, a.inside.c1_in) in
      let h : min p.r1 q.r1 + 1 - max p.r0 q.r0 ≤ g.rows = omega (arith, a.inside.r1_in) in
      le_trans (mul-le-mul w h) a.limits.small

  pub small_in : (s : (Option CellRange)) → ((r : CellRange) → s ≡ Some r → InGrid g r) → SmallIn g.cols (meet s q)
  small_in None i = tt
  small_in (Some p) i = record {
    first_small = omega (arith, row_in g.cols g.rows (max p.c0 q.c0) 1 (max p.r0 q.r0) (omega (arith, (i p refl).r0_in, a.inside.r0_in)) (omega (arith, (i p refl).c0_in, a.inside.c0_in)), a.limits.small);
    area_small = area_small (Some p);
  }

-- ---- the loop
pub no_front : (l : List ℕ) → take 0 l ≡ []
no_front [] = refl
no_front (x ∷ l) = refl

module _ (span : ℕ → (Option CellRange)) (cols : ℕ) (q : CellRange) (n : ℕ) where
  pub record Gathering (t : Gathered) (keys : List ℕ) (id : ℕ) : Type 0 where
    pub upto : id ≤ n
    pub few : t.found ≤ id
    pub small : t.cells ≤ id * 1048576
    pub long : n ≤ length keys
    pub keys_left : take t.found keys ++ keys_from span cols q id (n - id) ≡ keys_from span cols q 0 n
    pub cells_left : t.cells + cells_from span cols q id (n - id) ≡ cells_from span cols q 0 n

  pub gather_none : (keys : List ℕ) → n ≤ length keys → Gathering (record { found = 0; cells = 0 }) keys 0
  gather_none keys long =
      let e : counting 0 (n - 0) ≡ counting 0 n = counting_all 0 n (omega arith) in
      record { upto = omega arith; few = omega arith; small = omega arith; long = long; keys_left = ap (λ (l : List ℕ). l ++ keys_from span cols q 0 (n - 0)) (no_front keys) ∙ ap (λ (l : List ℕ). map (key_of span cols q) (filter (shares span cols q) l)) e; cells_left = omega (arith, ap (sum_over (λ k. area_of (meet (span k) q))) e) }

  -- the keys from an id on, by whether it shares a cell
  keys_by : (b : Bool) (id : ℕ) → id < n → shares span cols q id ≡ b → keys_from span cols q id (n - id) ≡ map (key_of span cols q) (cons_if b id (filter (shares span cols q) (counting (id + 1) (n - (id + 1)))))
  keys_by b id h e = ap (map (key_of span cols q)) (filter_up (shares span cols q) id n h ∙ ap (λ (t : Bool). cons_if t id (filter (shares span cols q) (counting (id + 1) (n - (id + 1))))) e)

  next_keys : (s : (Option CellRange)) (id f f' : ℕ) (keys keys' : List ℕ) → id < n → f ≤ id → n ≤ length keys → meet (span id) q ≡ s → f' ≡ f + bit (has_cell s) → keys' ≡ key_put cols s id f keys
      → take f' keys' ++ keys_from span cols q (id + 1) (n - (id + 1)) ≡ take f keys ++ keys_from span cols q id (n - id)
  next_keys None id f f' keys keys' h few long e ef ek =
      let z : f' ≡ f = omega arith in
      rw (z, ek, keys_by false id h (ap has_cell e))
  next_keys (Some r) id f f' keys keys' h few long e ef ek = by (has_cell (Some r)) refl
    where
      at : keys' ≡ set keys f (key_of span cols q id)
      at = ek ∙ ap (λ (s : (Option CellRange)). set keys f (key_at (first_cell cols s) id)) (sym e)

      by : (b : Bool) → has_cell (Some r) ≡ b → take f' keys' ++ keys_from span cols q (id + 1) (n - (id + 1)) ≡ take f keys ++ keys_from span cols q id (n - id)
      by true t =
          let z : f' ≡ f + 1 = ef ∙ ap (λ (b : Bool). f + bit b) t in
          rw (z, at, keys_by true id h (ap has_cell e ∙ t), add-one f, take-suc-set keys f (key_of span cols q id) (omega arith))
          (append_assoc (take f keys) (key_of span cols q id ∷ []) (keys_from span cols q (id + 1) (n - (id + 1))))
      by false t =
          let y : f' ≡ f + 0 = ef ∙ ap (λ (b : Bool). f + bit b) t in
          let z : f' ≡ f = omega arith in
          rw (z, at, keys_by false id h (ap has_cell e ∙ t), take-set-le f keys f (key_of span cols q id) (omega arith))

  pub gather_next : (t u : Gathered) (keys keys' : List ℕ) (id : ℕ) → Gathering t keys id → id < n → area_of (meet (span id) q) ≤ 1048576 → GathersOne cols (meet (span id) q) id t keys u keys' → Gathering u keys' (id + 1)
  gather_next t u keys keys' id w h a g =
      record {
        upto = omega arith;
        few = omega (arith, w.few, g.found_next, bit_le (has_cell (meet (span id) q)));
        small = omega (arith, w.small, g.cells_next);
        long = omega (arith, w.long, one_long cols (meet (span id) q) id t keys u keys' g);
        keys_left = next_keys (meet (span id) q) id t.found u.found keys keys' h w.few w.long refl g.found_next g.keys_next ∙ w.keys_left;
        cells_left = omega (arith, w.cells_left, g.cells_next, ap (sum_over (λ k. area_of (meet (span k) q))) (counting_up id n h));
      }

  pub gather_done : (t : Gathered) (keys : List ℕ) (id : ℕ) → Gathering t keys id → n ≤ id → Gathers span cols q n t keys
  gather_done t keys id w h =
      let e : counting id (n - id) ≡ [] = counting_none id n h in
      let k : take t.found keys ≡ keys_from span cols q 0 n = sym (append-nil (take t.found keys)) ∙ sym (rw e) ∙ w.keys_left in
      record {
        keys_are = k;
        found_is = sym (length-take-le t.found keys (omega (arith, w.few, w.long, w.upto))) ∙ ap length k;
        cells_are = omega (arith, w.cells_left, ap (sum_over (λ k. area_of (meet (span k) q))) e);
      }
