-- What the numbers of a site's head have to be, of document 01's "Sound tables", and what building is given. Definitions only.
use Rattle.std.specs.Prelude.{◌≡◌, ℕ, ◌<◌, ◌≤◌, true, false, List, Float}
use Rattle.std.specs.Float.{inf}
use Rattle.std.specs.Float.Ieee.{lt, eq, le}
use Rattle.lists.specs.Members.{All}
use Rattle.num.specs.Ops.{◌⊘◌, one_f}
use Rattle.geom.specs.declared.Aabb.{Aabb}
use Rattle.geom.specs.Box.{is_empty_of}
use Rattle.bounds.specs.Within.{Within}
use Rattle.bounds.specs.Domain.{in_domain, in_size}
use Rattle.extent.specs.Extent.{cols_of, rows_of}

-- the four numbers of a box lie from -d to d
pub record BoxIn (d : ℕ) (b : Aabb) : Type 0 where
  pub left_in : Within d b.min.x
  pub low_in : Within d b.min.y
  pub right_in : Within d b.max.x
  pub high_in : Within d b.max.y

-- a box in the domain, or an empty one
abbrev pub Placed : Aabb → Type 0
Placed b = is_empty_of b ≡ false → BoxIn 1000000 b

-- what building has tested: width and height in the domain, at most 4,096 polygons, and of each polygon k the numbers of its points, `points k`
pub record Given (width height : Float) (n : ℕ) (points : ℕ → List Float) : Type 0 where
  pub width_in : in_size width ≡ true
  pub height_in : in_size height ≡ true
  pub few : n ≤ 4096
  pub points_are_in : (k : ℕ) → k < n → All (λ x. in_domain x ≡ true) (points k)

-- the bounds are in the domain and not empty; the cell is finite and at least 1, and 1 / cell equals itself when it is computed again (so it is no NaN) and is
-- at most 1; columns and rows are at least 1 and at most 2,000,001
pub record SoundHead (bounds : Aabb) (cell : Float) : Type 0 where
  pub left_in : in_domain bounds.min.x ≡ true
  pub low_in : in_domain bounds.min.y ≡ true
  pub right_in : in_domain bounds.max.x ≡ true
  pub high_in : in_domain bounds.max.y ≡ true
  pub not_empty : is_empty_of bounds ≡ false
  pub cell_within : Within 2000000 cell
  pub cell_finite : lt cell (inf false) ≡ true
  pub cell_least : le one_f cell ≡ true
  pub inverse_within : Within 1 (one_f ⊘ cell)
  pub inverse_same : eq (one_f ⊘ cell) (one_f ⊘ cell) ≡ true
  pub some_cols : 1 ≤ cols_of bounds cell
  pub some_rows : 1 ≤ rows_of bounds cell
  pub few_cols : cols_of bounds cell ≤ 2000001
  pub few_rows : rows_of bounds cell ≤ 2000001
