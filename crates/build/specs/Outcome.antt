-- What building does: the answer and the six lent tables after it, one outcome for each input (document 01, "Refusal numbers", "Order of checks" and
-- "Sound tables"; `Scene::new` of `scene.rs`). Definitions only.
use Rattle.std.specs.Prelude.{◌≡◌, cond, List, ℕ, ◌+◌, ◌*◌, ◌<◌, ◌≤◌, length, Float, Option, Err, Ok, Result}
use Rattle.lists.specs.Lists.{listed}
use Rattle.lists.specs.Parts.{padded}
use Rattle.num.specs.Ops.{zero_f}
use Rattle.grid.specs.declared.Grid.{Grid}
use Rattle.grid.specs.Range.{range_of}
use Rattle.tables.specs.Tables.{Limits, items_of, cell_start}
use Rattle.site.specs.declared.Site.{Site}
use Rattle.site.specs.Domain.{load_of}
use Rattle.site.specs.Tables.{Tables, tables, box_of}
use Rattle.build.specs.declared.Rooms.{Rooms}
use Rattle.build.specs.Stored.{points_of, boxes_table, polygons_table, owners_table, grid_of, span_in}
use Rattle.build.specs.Refusals.{points_in, too_many, adds_up, all_inside, few_cells, item_count, has_room}
use Rattle.grid.specs.declared.CellRange.{CellRange}
use Rattle.refusal.specs.declared.Refusal.{Refusal}
use Rattle.refusal.specs.declared.Refusal.TheVariants.{LengthsDiffer, NoTableRoom, OutsideDomain, TooMany, TooManyCells}

-- the head of the site
unfoldable pub site_of : Float → Float → Grid → List Float → List ℕ → Site
site_of width height g given lens = record {
  width = load_of width;
  height = load_of height;
  grid = g;
  polygons = length lens;
  points = points_in given;
  items = item_count g given lens;
}

-- ---- the decision, in document 01's order: 2, 3, 1, 4, 5
unfoldable pub plan_by : Float → Float → Grid → List Float → List ℕ → Rooms → Result Site Refusal
plan_by width height g given lens room =
    cond (few_cells g.cols g.rows)
    (cond (has_room room (length lens) (points_in given) (g.cols * g.rows) (item_count g given lens)) (Ok (site_of width height g given lens)) (Err NoTableRoom))
    (Err TooManyCells)

unfoldable pub plan_of : Float → Float → List Float → List ℕ → Rooms → Result Site Refusal
plan_of width height given lens room =
    cond (too_many given lens) (Err TooMany)
    (cond (adds_up given lens)
    (cond (all_inside width height given) (plan_by width height (grid_of width height given lens) given lens room) (Err OutsideDomain))
    (Err LengthsDiffer))

-- ---- the tables of the site, each with zeros up to the length of the lent one
unfoldable pub tables_of : Grid → List Float → List ℕ → Tables → Tables
tables_of g given lens lent =
    tables
    (padded zero_f (length lent.points) (points_of given lens))
    (padded zero_f (length lent.boxes) (boxes_table given lens))
    (padded 0 (length lent.polygons) (polygons_table lens))
    (padded 0 (length lent.owners) (owners_table lens))
    (padded 0 (length lent.starts) (listed (cell_start (span_in g given lens) (length lens) g.cols) (g.cols * g.rows + 1)))
    (padded 0 (length lent.items) (items_of (span_in g given lens) (length lens) g.cols (g.cols * g.rows)))

-- ---- the outcome: what is answered, and what is left in the tables
pub record Outcome : Type 0 where
  pub answer : Result Site Refusal
  pub left : Tables

-- refused, and every table as it was; or made, and the tables hold the site
unfoldable pub outcome_by : Result Site Refusal → List Float → List ℕ → Tables → Outcome
outcome_by (Err refusal) given lens lent = record { answer = Err refusal; left = lent }
outcome_by (Ok site) given lens lent = record { answer = Ok site; left = tables_of site.grid given lens lent }

abbrev pub rooms_of : Tables → Rooms
rooms_of lent = record {
  points = length lent.points;
  boxes = length lent.boxes;
  polygons = length lent.polygons;
  owners = length lent.owners;
  starts = length lent.starts;
  items = length lent.items;
}

unfoldable pub outcome : Float → Float → List Float → List ℕ → Tables → Outcome
outcome width height given lens lent = outcome_by (plan_of width height given lens (rooms_of lent)) given lens lent

-- an answer and six tables are those of the outcome
pub record Does (o : Outcome) (r : Result Site Refusal) (left : Tables) : Type 0 where
  pub says : r ≡ o.answer
  pub leaves : left ≡ o.left

-- ---- on the way: the cells of the polygon k, by points and polygons that are written
unfoldable pub span_at : Grid → List Float → List ℕ → ℕ → Option CellRange
span_at g points polygons k = range_of g (box_of points polygons k)

-- what `index` asks: a grid within the limits, and room for n boxes, the starts and the items
pub record Indexable (g : Grid) (points : List Float) (polygons : List ℕ) (n box_room start_room item_room : ℕ) : Type 0 where
  pub limits : Limits g
  pub few : n ≤ 4096
  pub boxes_fit : 4 * n ≤ box_room
  pub starts_fit : g.cols * g.rows < start_room
  pub items_fit : length (items_of (span_at g points polygons) n g.cols (g.cols * g.rows)) ≤ item_room
  pub few_items : length (items_of (span_at g points polygons) n g.cols (g.cols * g.rows)) ≤ 4294967295
