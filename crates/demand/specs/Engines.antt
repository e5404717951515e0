-- BOTH ENGINES OF THE BOX QUERY under one name, and what one theorem says of both (`both_engines`, proofs/DemandThree.antt). Document 02, Q-6: "State that once over both
-- engines". Definitions only.
use Rattle.std.specs.Prelude.{◌≡◌, List, ℕ, length}
use Rattle.lists.specs.Parts.{padded}
use Rattle.geom.specs.declared.Aabb.{Aabb}
use Rattle.site.specs.declared.Site.{Site}
use Rattle.site.specs.Tables.{Tables}
use Rattle.site.specs.Domain.{load_box_of}
use Rattle.scene.specs.Stamping.{polygons_near_of}
use Rattle.near.specs.Outcome.{Outcome, found_near, entries_held, plain_of}
use Rattle.demand.specs.Calls.{Stamps}
use Rattle.grid.specs.Query.{counted}

-- `Scene::polygons_near`, by the grid's tables and the stamps; and `near::polygons_near_plain`, by the points and polygons alone
pub data Engine : Type 0 where
  tables : Engine
  plain : Engine

-- what the engine answers, and leaves in the list of ids that it is lent
unfoldable pub near_by : Engine → Site → Tables → Aabb → Stamps → List ℕ → Outcome
near_by tables s t b k ids = let o = polygons_near_of s t b k.marks k.epoch ids in record { answer = o.answer; ids = o.ids }
near_by plain s t b k ids = plain_of s t.points t.polygons b ids

-- ---- of a box, as the calls load it: the polygons whose ranges of cells, by their points, share a cell with the box's, by first shared cell and then id; and how many
-- entries the cells of the box's range hold
abbrev pub near_in : Site → Tables → Aabb → List ℕ
near_in s t b = found_near s.grid t.points t.polygons s.polygons (load_box_of b)

abbrev pub entries_near : Site → Tables → Aabb → ℕ
entries_near s t b = entries_held s.grid t.points t.polygons s.polygons (load_box_of b)

-- an outcome in room for k ids: that list, then zeros, and that count
pub record ListsNear (s : Site) (t : Tables) (b : Aabb) (k : ℕ) (o : Outcome) : Type 0 where
  pub answer_is : o.answer ≡ counted (length (near_in s t b)) (entries_near s t b)
  pub ids_are : o.ids ≡ padded 0 k (near_in s t b)
