-- SOUND TABLES (document 01): one test for each line of the paragraph, in its order, and `sound_of`, all of them together. Refusal 6 is given
-- exactly where `sound_of` is false, and where points and polygons alone are lent (document 02, Q-6), where `sound_plain` is. Beside them the records `Sound` and `SoundPlain`: what follows for
-- whoever reads the tables (proofs/SoundLaws.antt, proofs/PlainLaws.antt).
-- Floats are compared as `==` compares them. Definitions only.
use Rattle.std.specs.Prelude.{ℕ, ◌+◌, ◌*◌, ◌≤◌, ◌<◌, ◌≡◌, Bool, true, false, ◌&&◌, List, length, ltb, leb, eqb, Float}
use Rattle.std.specs.Float.{inf}
use Rattle.std.specs.Float.Ieee.{lt, le, eq}
use Rattle.num.specs.Ops.{◌⊘◌, one_f}
use Rattle.geom.specs.declared.Aabb.{Aabb}
use Rattle.grid.specs.declared.Grid.{Grid}
use Rattle.site.specs.declared.Site.{Site}
use Rattle.lists.specs.Members.{Rises, all_to}
use Rattle.bounds.specs.Domain.{in_size}
use Rattle.grid.specs.Boxes.{box_stride, box_at}
use Rattle.site.specs.Domain.{point_in_domain}
use Rattle.site.specs.Tables.{Tables, point_stride, polygon_stride, first_of, len_of, point_at, owner_at, start_at, item_at, box_of, cells_of}

-- "starts number cells plus one", and so on: no table is shorter than the head says. A longer slice is a table with room behind it
unfoldable pub tables_long : Site → Tables → Bool
tables_long site t =
    leb (point_stride * site.points) (length t.points)
    && leb (box_stride * site.polygons) (length t.boxes)
    && leb (polygon_stride * site.polygons) (length t.polygons)
    && leb site.points (length t.owners)
    && ltb (cells_of site) (length t.starts)
    && leb site.items (length t.items)

-- "counts of polygons and points within the limits"
unfoldable pub counts_within : Site → Bool
counts_within site = leb site.polygons 4096 && leb site.points 65536

-- "width, height, origin and points in the domain": the head's numbers, and those of n points
unfoldable pub head_in_domain : Site → Bool
head_in_domain site = in_size site.width && in_size site.height && point_in_domain site.grid.origin

unfoldable pub points_in_domain : ℕ → List Float → Bool
points_in_domain n points = all_to (λ i. point_in_domain (point_at points i)) n

-- "cell finite and at least 1, its stored inverse the computed 1 / cell"
unfoldable pub cell_right : Grid → Bool
cell_right g = le one_f g.cell && lt g.cell (inf false) && eq g.inv_cell (one_f ⊘ g.cell)

-- "each box the one its points give": two boxes have the same four numbers, and so for each of n polygons
unfoldable pub same_box : Aabb → Aabb → Bool
same_box a b = eq a.min.x b.min.x && eq a.min.y b.min.y && eq a.max.x b.max.x && eq a.max.y b.max.y

unfoldable pub box_right : List Float → List Float → List ℕ → ℕ → Bool
box_right points boxes polygons k = same_box (box_at boxes k) (box_of points polygons k)

unfoldable pub boxes_right : ℕ → List Float → List Float → List ℕ → Bool
boxes_right n points boxes polygons = all_to (box_right points boxes polygons) n

-- "columns and rows at least 1; cells are columns times rows, within the limit"
unfoldable pub cells_within : Site → Bool
cells_within site = leb 1 site.grid.cols && leb 1 site.grid.rows && leb (cells_of site) 1048576

-- "starts .. begin at 0, never fall, end at the item count"
unfoldable pub never_fall : ℕ → List ℕ → Bool
never_fall n starts = all_to (λ c. leb (start_at starts c) (start_at starts (c + 1))) n

unfoldable pub starts_right : ℕ → ℕ → List ℕ → Bool
starts_right cells count starts = eqb (start_at starts 0) 0 && never_fall cells starts && eqb (start_at starts cells) count

-- "items name polygons of three points or more"
unfoldable pub item_right : ℕ → List ℕ → ℕ → Bool
item_right n polygons k = ltb k n && leb 3 (len_of polygons k)

unfoldable pub items_right : ℕ → ℕ → List ℕ → List ℕ → Bool
items_right count n polygons items = all_to (λ i. item_right n polygons (item_at items i)) count

-- "each polygon's points lie inside the point list", of m points: also the place of a polygon without points
unfoldable pub parts_inside : ℕ → ℕ → List ℕ → Bool
parts_inside n m polygons = all_to (λ k. leb (first_of polygons k + len_of polygons k) m) n

-- "each point's owner is the one polygon that holds it": the owner of each point is a polygon that holds it ..
unfoldable pub owned : ℕ → List ℕ → List ℕ → ℕ → Bool
owned n polygons owners i =
    ltb (owner_at owners i) n
    && leb (first_of polygons (owner_at owners i)) i
    && ltb i (first_of polygons (owner_at owners i) + len_of polygons (owner_at owners i))

unfoldable pub all_owned : ℕ → ℕ → List ℕ → List ℕ → Bool
all_owned n m polygons owners = all_to (owned n polygons owners) m

-- .. and a polygon holds no point of another owner
unfoldable pub owns : List ℕ → List ℕ → ℕ → Bool
owns polygons owners k = all_to (λ j. eqb (owner_at owners (first_of polygons k + j)) k) (len_of polygons k)

unfoldable pub all_own : ℕ → List ℕ → List ℕ → Bool
all_own n polygons owners = all_to (owns polygons owners) n

-- ALL OF IT
unfoldable pub sound_of : Site → Tables → Bool
sound_of site t =
    tables_long site t
    && counts_within site
    && head_in_domain site
    && points_in_domain site.points t.points
    && cell_right site.grid
    && boxes_right site.polygons t.points t.boxes t.polygons
    && cells_within site
    && starts_right (cells_of site) site.items t.starts
    && items_right site.items site.polygons t.polygons t.items
    && parts_inside site.polygons site.points t.polygons
    && all_owned site.polygons site.points t.polygons t.owners
    && all_own site.polygons t.polygons t.owners

-- WHAT IS TESTED OF IT WHERE POINTS AND POLYGONS ALONE ARE LENT: "points, polygons, cell, its inverse, origin, columns and rows only" (document 02, Q-6), in the same words
unfoldable pub sound_plain : Site → List Float → List ℕ → Bool
sound_plain site points polygons =
    leb (point_stride * site.points) (length points)
    && leb (polygon_stride * site.polygons) (length polygons)
    && counts_within site
    && point_in_domain site.grid.origin
    && points_in_domain site.points points
    && cell_right site.grid
    && cells_within site
    && parts_inside site.polygons site.points polygons

-- ---- what that gives
pub record Sound (site : Site) (t : Tables) : Type 0 where
  -- each slice is as long as its table
  pub points_long : point_stride * site.points ≤ length t.points
  pub boxes_long : box_stride * site.polygons ≤ length t.boxes
  pub polygons_long : polygon_stride * site.polygons ≤ length t.polygons
  pub owners_long : site.points ≤ length t.owners
  pub starts_long : cells_of site < length t.starts
  pub items_long : site.items ≤ length t.items
  -- counts and limits
  pub few_polygons : site.polygons ≤ 4096
  pub few_points : site.points ≤ 65536
  pub has_cols : 1 ≤ site.grid.cols
  pub has_rows : 1 ≤ site.grid.rows
  pub few_cells : cells_of site ≤ 1048576
  -- the numbers
  pub width_in : in_size site.width ≡ true
  pub height_in : in_size site.height ≡ true
  pub origin_in : point_in_domain site.grid.origin ≡ true
  pub point_in : (i : ℕ) → i < site.points → point_in_domain (point_at t.points i) ≡ true
  pub cell_least : le one_f site.grid.cell ≡ true
  pub cell_finite : lt site.grid.cell (inf false) ≡ true
  pub inverse : eq site.grid.inv_cell (one_f ⊘ site.grid.cell) ≡ true
  -- each polygon's points lie inside the point list, and its box is the one that they give
  pub inside : (k : ℕ) → k < site.polygons → first_of t.polygons k + len_of t.polygons k ≤ site.points
  pub box_is_right : (k : ℕ) → k < site.polygons → same_box (box_at t.boxes k) (box_of t.points t.polygons k) ≡ true
  -- starts and items
  pub first_start : start_at t.starts 0 ≡ 0
  pub rise : Rises t.starts 0 (cells_of site)
  pub last_start : start_at t.starts (cells_of site) ≡ site.items
  pub item_below : (i : ℕ) → i < site.items → item_at t.items i < site.polygons
  pub item_corners : (i : ℕ) → i < site.items → 3 ≤ len_of t.polygons (item_at t.items i)
  -- owners
  pub owner_below : (i : ℕ) → i < site.points → owner_at t.owners i < site.polygons
  pub owner_first : (i : ℕ) → i < site.points → first_of t.polygons (owner_at t.owners i) ≤ i
  pub owner_end : (i : ℕ) → i < site.points → i < first_of t.polygons (owner_at t.owners i) + len_of t.polygons (owner_at t.owners i)
  pub one_owner : (k j : ℕ) → k < site.polygons → j < len_of t.polygons k → owner_at t.owners (first_of t.polygons k + j) ≡ k

-- and of points and polygons alone
pub record SoundPlain (site : Site) (points : List Float) (polygons : List ℕ) : Type 0 where
  pub points_long : point_stride * site.points ≤ length points
  pub polygons_long : polygon_stride * site.polygons ≤ length polygons
  pub few_polygons : site.polygons ≤ 4096
  pub few_points : site.points ≤ 65536
  pub has_cols : 1 ≤ site.grid.cols
  pub has_rows : 1 ≤ site.grid.rows
  pub few_cells : cells_of site ≤ 1048576
  pub origin_in : point_in_domain site.grid.origin ≡ true
  pub point_in : (i : ℕ) → i < site.points → point_in_domain (point_at points i) ≡ true
  pub cell_least : le one_f site.grid.cell ≡ true
  pub cell_finite : lt site.grid.cell (inf false) ≡ true
  pub inverse : eq site.grid.inv_cell (one_f ⊘ site.grid.cell) ≡ true
  pub inside : (k : ℕ) → k < site.polygons → first_of polygons k + len_of polygons k ≤ site.points
