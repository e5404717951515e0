-- How the engine without tables works: a key for each polygon that shares a cell, and a running count. Definitions only.
use Rattle.std.specs.Prelude.{◌≡◌, Bool, List, map, ℕ, ◌+◌, ◌*◌, ◌%◌, ◌<◌, ◌≤◌, length, set, take, None, Option, Some}
use Rattle.lists.specs.Lists.{bit, counting, filter, sum_over}
use Rattle.grid.specs.declared.CellRange.{CellRange}
use Rattle.grid.specs.declared.Grid.{Grid}
use Rattle.grid.specs.Range.{InGrid}
use Rattle.tables.specs.Tables.{Limits, area_of}
use Rattle.near.specs.declared.Gathered.{Gathered}
use Rattle.near.specs.Shared.{meet, has_cell}

-- ids are below it, so that a cell and an id make one number
abbrev pub id_span : ℕ
id_span = 4096

-- the number of its first cell
abbrev pub first_cell : ℕ → (Option CellRange) → ℕ
first_cell cols None = 0
first_cell cols (Some r) = r.r0 * cols + r.c0

abbrev pub key_at : ℕ → ℕ → ℕ
key_at cell id = cell * id_span + id

module _ (span : ℕ → (Option CellRange)) (cols : ℕ) (q : CellRange) where
  abbrev pub key_of : ℕ → ℕ
  key_of id = key_at (first_cell cols (meet (span id) q)) id

  abbrev pub shares : ℕ → Bool
  shares id = has_cell (meet (span id) q)

  -- the keys of n ids from one on that share a cell, and the cells that they share, all told
  abbrev pub keys_from : ℕ → ℕ → List ℕ
  keys_from id n = map key_of (filter shares (counting id n))

  abbrev pub cells_from : ℕ → ℕ → ℕ
  cells_from id n = sum_over (λ k. area_of (meet (span k) q)) (counting id n)

-- the ids of a list of keys
abbrev pub ids_of : List ℕ → List ℕ
ids_of keys = map (λ key. key % id_span) keys

-- a grid within the limits, a range in it, and at most so many ids as a key has room for
pub record Askable (g : Grid) (q : CellRange) (n : ℕ) : Type 0 where
  pub limits : Limits g
  pub inside : InGrid g q
  pub few : n ≤ id_span

-- what is gathered: the keys stand in front of the list, as many as are said, and the cells are counted
pub record Gathers (span : ℕ → (Option CellRange)) (cols : ℕ) (q : CellRange) (n : ℕ) (t : Gathered) (keys : List ℕ) : Type 0 where
  pub keys_are : take t.found keys ≡ keys_from span cols q 0 n
  pub found_is : t.found ≡ length (keys_from span cols q 0 n)
  pub cells_are : t.cells ≡ cells_from span cols q 0 n

-- ---- one polygon more
-- its first cell and its cells are within the limit, so that no sum is too large
pub record Small (cols : ℕ) (r : CellRange) : Type 0 where
  pub first_small : first_cell cols (Some r) < 1048576
  pub area_small : area_of (Some r) ≤ 1048576

abbrev pub SmallIn : ℕ → (Option CellRange) → Type 0
SmallIn cols None = Unit {0}
SmallIn cols (Some r) = Small cols r

-- its key is put behind those that there are, where it counts if the polygon shares a cell, and its cells are counted
abbrev pub key_put : ℕ → (Option CellRange) → ℕ → ℕ → List ℕ → List ℕ
key_put cols None id found keys = keys
key_put cols (Some r) id found keys = set keys found (key_at (first_cell cols (Some r)) id)

pub record GathersOne (cols : ℕ) (s : (Option CellRange)) (id : ℕ) (t : Gathered) (keys : List ℕ) (u : Gathered) (keys' : List ℕ) : Type 0 where
  pub found_next : u.found ≡ t.found + bit (has_cell s)
  pub cells_next : u.cells ≡ t.cells + area_of s
  pub keys_next : keys' ≡ key_put cols s id t.found keys
