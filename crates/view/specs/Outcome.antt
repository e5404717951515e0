-- What is answered and left behind after the tests: one outcome for each input, the answer and every lent cell. Document 01, "Refusal numbers": 8 leaves work and
-- output all zero, and the stamps as the unrefused call leaves them; "After a success the rest of each output list is zero and work room is zero".
-- Definitions only.
use Rattle.std.specs.Prelude.{◌≡◌, Bool, true, false, cond, List, [], ◌++◌, ℕ, ◌-◌, ◌*◌, min, length, take, replicate, Float, Err, Result, Ok}
use Rattle.num.specs.Ops.{zero_f}
use Rattle.lists.specs.Parts.{padded}
use Rattle.grid.specs.declared.Grid.{Grid}
use Rattle.grid.specs.declared.Listing.{Listing}
use Rattle.grid.specs.Query as query
use Rattle.site.specs.declared.Site.{Site}
use Rattle.site.specs.Tables.{Tables}
use Rattle.cone.specs.declared.ViewCone.{ViewCone}
use Rattle.room.specs.declared.Rooms.{Rooms}
use Rattle.room.specs.Layout.{is_short}
use Rattle.view.specs.declared.Plan.{Plan}
use Rattle.view.specs.declared.Plan.TheVariants.{Empty, Inside, Query}
use Rattle.view.specs.Post.{plan_of}
use Rattle.fan.specs.Fan.{Ready}
use Rattle.stages.specs.Shows.{points_in, ids_in}
use Rattle.stages.specs.Drawing.{Request, request, view_in, Drawing, eight, plain, staged_of}
use Rattle.refusal.specs.declared.Refusal.{Refusal}
use Rattle.grid.specs.Query.{counted}
use Rattle.stages.specs.declared.Shown.{Shown}

-- every cell that a caller lends
pub record Lent : Type 0 where
  pub marks : List ℕ
  pub epoch : ℕ
  pub floats : List Float
  pub words : List ℕ
  pub outline : List Float
  pub visible : List ℕ

abbrev pub lent : List ℕ → ℕ → List Float → List ℕ → List Float → List ℕ → Lent
lent marks epoch floats words outline visible = record { marks = marks; epoch = epoch; floats = floats; words = words; outline = outline; visible = visible }

pub record Outcome : Type 0 where
  pub answer : Result Shown Refusal
  pub left : Lent

abbrev pub out : (Result Shown Refusal) → Lent → Outcome
out a l = record { answer = a; left = l }

-- ---- the box query, where the plan has one: its answer, the stamps, and the ids in room for so many
unfoldable pub look_of : Plan → Grid → List ℕ → List ℕ → List ℕ → ℕ → ℕ → query.Outcome
look_of Empty g starts items m e room = record { answer = counted 0 0; marks = m; epoch = e; ids = [] }
look_of Inside g starts items m e room = record { answer = counted 0 0; marks = m; epoch = e; ids = [] }
look_of (Query b) g starts items m e room = query.outcome g b starts items m e room

-- what it leaves: its list stands in front of the words
pub record Looked (o : query.Outcome) (r : (Result Listing Refusal)) (marks : List ℕ) (epoch : ℕ) (words : List ℕ) : Type 0 where
  pub is : r ≡ o.answer
  pub stamps : marks ≡ o.marks
  pub epoch_is : epoch ≡ o.epoch
  pub ids : (n read : ℕ) → o.answer ≡ counted n read → take n words ≡ take n o.ids

-- ---- the drawing
abbrev pub listed_by : Result Listing Refusal → Request → List Float → List ℕ → Drawing
listed_by (Ok l) q boxes ids = staged_of q boxes (take l.written ids)
listed_by (Err r) q boxes ids = eight

unfoldable pub planned : Plan → Request → List Float → Result Listing Refusal → List ℕ → Drawing
planned Empty q boxes a ids = plain false (view_in q).full
planned Inside q boxes a ids = plain true (view_in q).full
planned (Query b) q boxes a ids = listed_by a q boxes ids

-- a room that is too short is refused whatever the plan is
unfoldable pub drawn_of : Bool → Plan → Request → List Float → Result Listing Refusal → List ℕ → Drawing
drawn_of short p q boxes a ids = cond short eight (planned p q boxes a ids)

-- what the stages ask, where the room is not short and the query lists n ids
abbrev pub Drawable : Bool → Rooms → List ℕ → Result Listing Refusal → List Float → List ℕ → Type 0
Drawable short k polygons a f w = short ≡ false → (n read : ℕ) → a ≡ counted n read → Ready k polygons n f w

-- ---- zeroing
pub record Cleared (a : (Result Shown Refusal)) (f : List Float) (w : List ℕ) (o : List Float) (i : List ℕ) (f' : List Float) (w' : List ℕ) (o' : List Float) (i' : List ℕ) : Type 0 where
  pub floats : f' ≡ replicate (length f) zero_f
  pub words : w' ≡ replicate (length w) 0
  pub outline : o' ≡ take (2 * points_in a) o ++ replicate (length o - 2 * points_in a) zero_f
  pub visible : i' ≡ take (ids_in a) i ++ replicate (length i - ids_in a) 0

-- ---- the outcome
-- a drawing shown: work room zero, each output list with zeros behind it, the stamps as the query leaves them
abbrev pub shown : Drawing → query.Outcome → Lent → Outcome
shown d a l =
    out d.answer
    (lent a.marks a.epoch (replicate (length l.floats) zero_f) (replicate (length l.words) 0) (padded zero_f (length l.outline) d.pts) (padded 0 (length l.visible) d.ids))

-- with a loaded cone and tolerance
abbrev pub request_of : Rooms → Tables → ViewCone → Float → ℕ → Lent → Request
request_of k t c tolerance mode l = request k t.points t.polygons t.owners c tolerance mode (length l.outline) (length l.visible)

abbrev pub look_in : Plan → Site → Tables → Rooms → Lent → query.Outcome
look_in p site t k l = look_of p site.grid t.starts t.items l.marks l.epoch (min k.ids (length l.words))

abbrev pub shown_by : Plan → Site → Tables → ViewCone → Float → ℕ → Rooms → Lent → Outcome
shown_by p site t c tolerance mode k l =
    shown (drawn_of (is_short k (length l.floats) (length l.words)) p (request_of k t c tolerance mode l) t.boxes (look_in p site t k l).answer (look_in p site t k l).ids)
    (look_in p site t k l) l

-- after the tests, of a loaded cone and tolerance
unfoldable pub seen_from_of : Site → Tables → ViewCone → Float → ℕ → Rooms → Lent → Outcome
seen_from_of site t c tolerance mode k l = shown_by (plan_of site.grid t.points t.boxes t.polygons t.starts t.items c) site t c tolerance mode k l
