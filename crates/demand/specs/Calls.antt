-- STAMPS AND THE CALLS THAT TOUCH THEM. Demand 3: "stamps begun empty, always lent whole and touched by our queries alone". Definitions only.
use Rattle.std.specs.Prelude.{List, [], ◌∷◌, ℕ, length, replicate, Float}
use Rattle.geom.specs.declared.Aabb.{Aabb}
use Rattle.grid.specs.declared.Grid.{Grid}
use Rattle.grid.specs.Query as query
use Rattle.site.specs.declared.Site.{Site}
use Rattle.site.specs.Tables.{Tables}
use Rattle.scene.specs.Stamping.{new_stamps_of, polygons_near_of}
use Rattle.cone.specs.declared.ViewCone.{ViewCone}
use Rattle.room.specs.declared.Rooms.{Rooms}
use Rattle.view.specs.Outcome.{Lent, lent, seen_from_of}
use Rattle.visibility.specs.Outcome.{outcome}

pub record Stamps : Type 0 where
  pub marks : List ℕ
  pub epoch : ℕ

abbrev pub stamps : List ℕ → ℕ → Stamps
stamps m e = record { marks = m; epoch = e }

-- begun empty: n marks
abbrev pub begun : ℕ → Stamps
begun n = stamps (replicate n 0) 0

-- lent to an outline call with all else that it is lent
abbrev pub lent_with : Stamps → List Float → List ℕ → List Float → List ℕ → Lent
lent_with s floats words outline visible = lent s.marks s.epoch floats words outline visible

-- a call that is lent stamps: `Scene::new_stamps`, `Scene::polygons_near` and `visibility::compute_visibility`; and under these three `grid::new_stamps`,
-- `grid::box_query` and `view::seen_from`. The grid's single steps (`next_epoch`, `mark`) are parts of a query and no calls of it
pub data Call : Type 0 where
  renews : (site : Site) (t : Tables) → Call
  nears : (site : Site) (t : Tables) (b : Aabb) (ids : List ℕ) → Call
  outlines : (site : Site) (t : Tables) (c : ViewCone) (tolerance : Float) (mode : ℕ) (k : Rooms) (floats : List Float) (words : List ℕ) (outline : List Float) (visible : List ℕ) → Call
  clears : Call
  asks : (g : Grid) (starts items : List ℕ) (b : Aabb) (room : ℕ) → Call
  draws : (site : Site) (t : Tables) (c : ViewCone) (tolerance : Float) (mode : ℕ) (k : Rooms) (floats : List Float) (words : List ℕ) (outline : List Float) (visible : List ℕ) → Call

-- the stamps after it
abbrev pub after : Call → Stamps → Stamps
after (renews site t) s = let o = new_stamps_of site t s.marks s.epoch in stamps o.marks o.epoch
after (nears site t b ids) s = let o = polygons_near_of site t b s.marks s.epoch ids in stamps o.marks o.epoch
after (outlines site t c tolerance mode k floats words outline visible) s =
    let o = outcome site t c tolerance mode k (lent_with s floats words outline visible) in stamps o.left.marks o.left.epoch
after clears s = stamps (replicate (length s.marks) 0) 0
after (asks g starts items b room) s = let o = query.outcome g b starts items s.marks s.epoch room in stamps o.marks o.epoch
after (draws site t c tolerance mode k floats words outline visible) s =
    let o = seen_from_of site t c tolerance mode k (lent_with s floats words outline visible) in stamps o.left.marks o.left.epoch

-- and after any of them, one after another
abbrev pub after_all : List Call → Stamps → Stamps
after_all [] s = s
after_all (c ∷ cs) s = after_all cs (after c s)
