-- THE CHECKS OF BUILDING, as facts: what document 01's rows deny, in document 01's order, 2, 3, 1, 4, 5 ("Refusal numbers"). specs/Refusals.antt has them as tests.
-- That building's answer follows them is proofs/RefusedWhen.antt. Definitions only.
use Rattle.std.specs.Prelude.{◌≡◌, true, List, ℕ, ◌*◌, ◌<◌, ◌≤◌, length, get_or, Float}
use Rattle.std.specs.Float.{nan}
use Rattle.bounds.specs.Domain.{in_domain, in_size}
use Rattle.grid.specs.declared.Grid.{Grid}
use Rattle.site.specs.Checks.{Checks, passed, check}
use Rattle.build.specs.declared.Rooms.{Rooms}
use Rattle.build.specs.Stored.{first_in, grid_of}
use Rattle.build.specs.Refusals.{points_in, item_count}

-- 2: "over 4,096 polygons or 65,536 points"
pub record Few (given : List Float) (lens : List ℕ) : Type 0 where
  pub few_polygons : length lens ≤ 4096
  pub few_points : points_in given ≤ 65536

-- 3: "the polygons' lengths do not add up to the points given", of two numbers each
abbrev pub AddUp : List Float → List ℕ → Type 0
AddUp given lens = 2 * first_in lens (length lens) ≡ length given

-- 1: "a number lies outside the domain"
pub record Inside (width height : Float) (given : List Float) : Type 0 where
  pub width_in : in_size width ≡ true
  pub height_in : in_size height ≡ true
  pub numbers_in_domain : (i : ℕ) → i < length given → in_domain (get_or given i nan) ≡ true

-- 4: "over 1,048,576 cells"
abbrev pub FewCells : Grid → Type 0
FewCells g = g.cols * g.rows ≤ 1048576

-- 5: "a table of the site is longer than the room lent for it": two numbers for a point, four for a box, two for a polygon, an owner for a point, a start for a
-- cell and one more, and the items; room for these "counts as at most 4,294,967,295 entries"
pub record Space (room : Rooms) (polygons points cells items : ℕ) : Type 0 where
  pub points_fit : 2 * points ≤ room.points
  pub boxes_fit : 4 * polygons ≤ room.boxes
  pub polygons_fit : 2 * polygons ≤ room.polygons
  pub owners_fit : points ≤ room.owners
  pub starts_fit : cells < room.starts
  pub items_fit : items ≤ room.items
  pub few_items : items ≤ 4294967295

-- the checks of a site on the grid g
abbrev pub grid_checks : Grid → List Float → List ℕ → Rooms → Checks
grid_checks g given lens room =
    check 4 (FewCells g) (check 5 (Space room (length lens) (points_in given) (g.cols * g.rows) (item_count g given lens)) passed)

-- ALL OF THEM
abbrev pub build_checks : Float → Float → List Float → List ℕ → Rooms → Checks
build_checks width height given lens room =
    check 2 (Few given lens) (check 3 (AddUp given lens) (check 1 (Inside width height given) (grid_checks (grid_of width height given lens) given lens room)))
