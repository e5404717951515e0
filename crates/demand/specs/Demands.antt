-- DEMAND 3'S OWN WORDS: a site built here, what a box query lists, what a ray enters. Definitions only.
use Rattle.std.specs.Prelude.{◌≡◌, List, ℕ, ◌+◌, ◌≤◌, ◌<◌, ◌-◌, length, Float, Ok}
use Rattle.geom.specs.declared.Aabb.{Aabb}
use Rattle.grid.specs.Range.{range_of}
use Rattle.site.specs.declared.Site.{Site}
use Rattle.site.specs.Tables.{Tables}
use Rattle.lists.specs.Members.{In, NoDup}
use Rattle.geom.specs.declared.Vec2.{Vec2}
use Rattle.tables.specs.Tables.{span_of, Share, held_in}
use Rattle.build.specs.Outcome as building
use Rattle.random.specs.declared.SceneConfig.{SceneConfig}
use Rattle.random.specs.Outcome as drawing
use Rattle.scene.specs.Answers.{seen_cells}

-- ---- "a site built here and unaltered since": the site s with the tables t as `build::new` or `random::random` left them
pub data BuiltHere (s : Site) (t : Tables) : Type 0 where
  by_new : (width height : Float) (given : List Float) (lens : List ℕ) (lent : Tables) → building.Does (building.outcome width height given lens lent) (Ok s) t → BuiltHere s t
  by_random : (config : SceneConfig) (lent : Tables) → building.Does (drawing.outcome config lent) (Ok s) t → BuiltHere s t

-- ---- what a box query lists: the ids and the count, for the box b
pub record BoxLists (s : Site) (t : Tables) (b : Aabb) (ids : List ℕ) (count : ℕ) : Type 0 where
  -- "each polygon whose cells meet the box's cells, ..
  pub each : (id : ℕ) → id < s.polygons → Share (span_of s.grid t.boxes id) (range_of s.grid b) → In id ids
  -- .. once, ..
  pub once : NoDup ids
  -- .. and no other, ..
  pub no_other : (id : ℕ) → In id ids → (id < s.polygons) × Share (span_of s.grid t.boxes id) (range_of s.grid b)
  -- .. and its reported count is exactly the entries those cells hold"
  pub counted : count ≡ held_in (span_of s.grid t.boxes) s.polygons s.grid.cols (range_of s.grid b)

-- ---- what a ray enters, in a mode: so many cells, those of its walk
pub record RayEnters (s : Site) (t : Tables) (o v : Vec2) (len : Float) (mode count : ℕ) : Type 0 where
  pub counted : count ≡ length (seen_cells s t o v len mode)
  pub no_cell_twice : NoDup (seen_cells s t o v len mode)
  pub at_most : count ≤ s.grid.cols + s.grid.rows - 1
