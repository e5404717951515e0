-- When building refuses: the tests of document 01's "Refusal numbers" for a site's building, one for each number, and what the later steps may take for
-- granted once the first two have passed. specs/Checks.antt has them as facts. Definitions only.
use Rattle.std.specs.Prelude.{◌≡◌, Bool, ◌&&◌, ◌||◌, List, ℕ, ◌+◌, ◌*◌, ◌/◌, ◌≤◌, length, get_or, ltb, leb, eqb, Float}
use Rattle.std.specs.Float.{nan}
use Rattle.lists.specs.Members.{all_to}
use Rattle.bounds.specs.Domain.{in_domain, in_size}
use Rattle.grid.specs.declared.Grid.{Grid}
use Rattle.tables.specs.Tables.{items_of}
use Rattle.build.specs.declared.Rooms.{Rooms}
use Rattle.build.specs.Stored.{first_in, span_in}

-- how many points the list has whole
abbrev pub points_in : List Float → ℕ
points_in given = length given / 2

-- 2: "over 4,096 polygons or 65,536 points"
unfoldable pub too_many : List Float → List ℕ → Bool
too_many given lens = ltb 4096 (length lens) || ltb 65536 (points_in given)

-- 3, where it fails: "the polygons' lengths do not add up to the points given". Twice a sum is even, so an odd list fails too
unfoldable pub adds_up : List Float → List ℕ → Bool
adds_up given lens = eqb (2 * first_in lens (length lens)) (length given)

-- 1, where it fails: "a number lies outside the domain"
unfoldable pub numbers_in : List Float → Bool
numbers_in given = all_to (λ i. in_domain (get_or given i nan)) (length given)

unfoldable pub all_inside : Float → Float → List Float → Bool
all_inside width height given = in_size width && in_size height && numbers_in given

-- 4, where it fails: "over 1,048,576 cells"
abbrev pub few_cells : ℕ → ℕ → Bool
few_cells cols rows = leb (cols * rows) 1048576

-- how many items the grid has
unfoldable pub item_count : Grid → List Float → List ℕ → ℕ
item_count g given lens = length (items_of (span_in g given lens) (length lens) g.cols (g.cols * g.rows))

-- 5, where it fails: "a table of the site is longer than the room lent for it"; room for items "counts as at most 4,294,967,295 entries"
unfoldable pub has_room : Rooms → ℕ → ℕ → ℕ → ℕ → Bool
has_room room polygons points cells items =
    leb (2 * points) room.points
    && leb (4 * polygons) room.boxes
    && leb (2 * polygons) room.polygons
    && leb points room.owners
    && ltb cells room.starts
    && leb items room.items
    && leb items 4294967295

-- what has passed the tests of 2 and 3
pub record Counted (given : List Float) (lens : List ℕ) : Type 0 where
  pub few_polygons : length lens ≤ 4096
  pub few_points : length given ≤ 131072
  pub numbers_add_up : 2 * first_in lens (length lens) ≡ length given

-- len points from `first` on lie inside the list given
abbrev pub Held : List Float → ℕ → ℕ → Type 0
Held given first len = 2 * (first + len) ≤ length given
