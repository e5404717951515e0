-- The Rust's `Outline::push` (`visibility.rs`, lines 701 to 721) and its `owners`, as steps on a list of coordinates, a list of marks and a `Trace`.
-- Document 01, refusal 8: "a work or output list would pass its stated entries at any moment of the Rust's run": `over` is set at that moment and stays.
-- Definitions only.
use Rattle.std.specs.Prelude.{◌≡◌, Bool, true, false, cond, List, ℕ, ◌+◌, ◌-◌, ◌*◌, ◌≤◌, ltb, leb, eqb, get_or, length, set, Float}
use Rattle.std.specs.Float.{nan}
use Rattle.std.specs.Float.Ieee.{le}
use Rattle.num.specs.Ops.{◌⊗◌, one_f}
use Rattle.num.specs.Num.{max_of}
use Rattle.geom.specs.declared.Vec2.{Vec2}
use Rattle.geom.specs.Vec.{vec, distance_sq_of}
use Rattle.geom.specs.Constants.{flat}
use Rattle.site.specs.Tables.{owner_at}
use Rattle.outline.specs.declared.Trace.{Trace}
use Rattle.outline.specs.declared.Place.{Place}
use Rattle.outline.specs.declared.Place.TheVariants.{Skip, Corner, Same, Add, Full}

-- the tag of a point that stays: the Rust's `CORNER`, `u32::MAX`
abbrev pub corner : ℕ
corner = 4294967295

abbrev pub trace : ℕ → ℕ → ℕ → ℕ → ℕ → Bool → Trace
trace n l p w c v = record { points = n; last = l; prev = p; owners = w; refinements = c; over = v }

-- nothing yet
abbrev pub none : Trace
none = trace 0 0 0 0 0 false

-- ---- where a point goes
-- p is right next to the point q: its square distance is at most 1e-14 * max(o.distance_sq(p), 1)
unfoldable pub close_of : Vec2 → Vec2 → Vec2 → Bool
close_of o p q = le (distance_sq_of q p) (flat ⊗ max_of (distance_sq_of o p) one_f)

-- behind the last of n points, in a list of l numbers
unfoldable pub room_of : ℕ → ℕ → Place
room_of l n = cond (leb (2 * n + 2) l) Add Full

-- the third and later points of a run on one edge take the place of the last one
unfoldable pub tail_of : ℕ → Trace → ℕ → Place
tail_of l s tag =
    let r = room_of l s.points in
    cond (eqb tag corner) r (cond (ltb s.points 2) r (cond (eqb s.last tag) (cond (eqb s.prev tag) Same r) r))

-- the last point
abbrev pub last_of : List Float → Trace → Vec2
last_of pts s = vec (get_or pts (2 * s.points - 2) nan) (get_or pts (2 * s.points - 1) nan)

-- a point next to the last one is dropped, or takes its place as a corner
unfoldable pub place_of : List Float → Trace → Vec2 → Vec2 → ℕ → Place
place_of pts s o p tag =
    let r = tail_of (length pts) s tag in
    cond s.over Skip (cond (eqb s.points 0) r (cond (close_of o p (last_of pts s)) (cond (eqb tag corner) Corner Skip) r))

-- what each place asks of the count of points and of the list's length
abbrev pub Safe : Place → ℕ → ℕ → Type 0
Safe Skip n l = Unit
Safe Corner n l = 1 ≤ n
Safe Same n l = 1 ≤ n
Safe Add n l = 2 * n + 2 ≤ l
Safe Full n l = Unit

pub record Chosen (p : Place) (n l : ℕ) (r : Place) : Type 0 where
  pub is : r ≡ p
  pub safe : Safe r n l

-- ---- a point
pub record Out : Type 0 where
  pub pts : List Float
  pub at : Trace

abbrev pub out : List Float → Trace → Out
out l t = record { pts = l; at = t }

-- the coordinates of p, at the place k and behind it
abbrev pub put_point : List Float → ℕ → ℕ → Vec2 → List Float
put_point pts k j p = set (set pts k p.x) j p.y

abbrev pub act : Place → Vec2 → ℕ → List Float → Trace → Out
act Skip p tag pts s = out pts s
act Corner p tag pts s =
    out (put_point pts (2 * s.points - 2) (2 * s.points - 1) p) (trace s.points corner s.prev s.owners s.refinements s.over)
act Same p tag pts s = out (put_point pts (2 * s.points - 2) (2 * s.points - 1) p) s
act Add p tag pts s =
    out (put_point pts (2 * s.points) (2 * s.points + 1) p) (trace (s.points + 1) tag s.last s.owners s.refinements s.over)
act Full p tag pts s = out pts (trace s.points s.last s.prev s.owners s.refinements true)

-- `push` of the point p with a tag, in an outline seen from o
unfoldable pub push_of : Vec2 → Vec2 → ℕ → List Float → Trace → Out
push_of o p tag pts s = act (place_of pts s o p tag) p tag pts s

-- the points stay within the list, and the other counts stay
pub record Pushed (l : ℕ) (s r : Trace) : Type 0 where
  pub within : 2 * r.points ≤ l
  pub owners : r.owners ≡ s.owners
  pub refinements : r.refinements ≡ s.refinements
  pub open_before : r.over ≡ false → s.over ≡ false

-- ---- an owner
pub record Own : Type 0 where
  pub marks : List ℕ
  pub at : Trace

abbrev pub owned : List ℕ → Trace → Own
owned l t = record { marks = l; at = t }

-- one entry more of `owners`, of which `room` are allowed: the owner of the edge e is marked
unfoldable pub own_of : ℕ → List ℕ → ℕ → List ℕ → Trace → Own
own_of room owners e marks s =
    cond s.over (owned marks s)
    (cond (ltb s.owners room)
    (owned (set marks (owner_at owners e) 1) (trace s.points s.last s.prev (s.owners + 1) s.refinements s.over))
    (owned marks (trace s.points s.last s.prev (s.owners + 1) s.refinements true)))

-- the entries are at most one past their room, and past it only where `over` is set
pub record Room (room : ℕ) (s : Trace) : Type 0 where
  pub most : s.owners ≤ room + 1
  pub within : s.over ≡ false → s.owners ≤ room

-- the entries stay so and grow by one, unless the run was over; the other counts stay
pub record Grown (room : ℕ) (s r : Trace) : Type 0 where
  pub points : r.points ≡ s.points
  pub refinements : r.refinements ≡ s.refinements
  pub entries : Room room r
  pub up : s.owners ≤ r.owners
  pub grew : s.over ≡ false → r.owners ≡ s.owners + 1
