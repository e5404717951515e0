-- The events of an outline, in order of angle and merged: `visibility.rs`, lines 335 to 371. Document 01, "Outlines from a post": "Events less
-- than 1e-12 after the kept one merge; other corners are kept aside, by event and then vertex".
-- The Rust keeps the corners of all events in one list, sorted by event and then vertex; here each event has its own, sorted by vertex. The
-- Rust's `dedup` after that sort is `dedup` of each (the crate `sorts`). Definitions only, but for the decimal of a constant.
use Rattle.std.specs.Prelude.{◌≡◌, refl, Bool, true, false, cond, not, ◌&&◌, ◌||◌, List, [], ◌∷◌, ◌++◌, ℕ, ◌^◌, ltb, eqb, Float, length}
use Rattle.std.specs.Float.{binary64}
use Rattle.std.specs.Float.Ieee.{lt, round, of_bits}
use Rattle.num.specs.Ops.{◌⊖◌, zero_f}
use Rattle.num.specs.Order.{before}
use Rattle.lists.specs.Lists.{bit, sum_over}
use Rattle.room.specs.Constants.{no_vertex}
use Rattle.room.specs.declared.Event.{Event}
use Rattle.sorts.specs.Sort.{sort}

-- 1e-12: events less than this after the kept one merge with it
abbrev pub pico : Float
pico = of_bits binary64 0x3d71_9799_812d_ea11

pub pico_is : pico ≡ round binary64 false 1 (10 ^ 12)
unfolding of_bits round
pico_is = refl

-- an event after merging: the kept angle, its corner, whether it is a side of the sector, and the corners kept aside
pub record Spot : Type 0 where
  pub angle : Float
  pub vertex : ℕ
  pub side : Bool
  pub extras : List ℕ

-- ---- the straight sides of a sector, pushed behind the corners
abbrev pub side_at : Float → Event
side_at a = record { angle = a; vertex = no_vertex; side = true }

abbrev pub sides_of : Bool → Float → List Event
sides_of full fov = cond full [] (side_at zero_f ∷ side_at fov ∷ [])

-- ---- merging
-- an event on its own
abbrev pub opened : Event → Spot
opened e = record { angle = e.angle; vertex = e.vertex; side = e.side; extras = [] }

-- the angle b is less than 1e-12 after the kept one, a
abbrev pub is_near : Float → Float → Bool
is_near a b = lt (b ⊖ a) pico

-- the corner b is another one than the kept one, a, so it is kept aside
unfoldable pub is_aside : ℕ → ℕ → Bool
is_aside a b = not (eqb a no_vertex) && (not (eqb b no_vertex) && not (eqb b a))

-- the corner that is kept: the first that there is
abbrev pub kept_of : ℕ → ℕ → ℕ
kept_of a b = cond (eqb a no_vertex) b a

-- e merged into s
abbrev pub met : Spot → Event → Spot
met s e = record {
  angle = s.angle;
  vertex = kept_of s.vertex e.vertex;
  side = s.side || e.side;
  extras = cond (is_aside s.vertex e.vertex) (s.extras ++ (e.vertex ∷ [])) s.extras;
}

-- its corners kept aside, by vertex
abbrev pub closed : Spot → Spot
closed s = record { angle = s.angle; vertex = s.vertex; side = s.side; extras = sort ltb s.extras }

-- s is open, and the events to come are merged into it as long as they are near
abbrev pub gather : Spot → List Event → List Spot
gather s [] = closed s ∷ []
gather s (e ∷ es) = cond (is_near s.angle e.angle) (gather (met s e) es) (closed s ∷ gather (opened e) es)

abbrev pub gathered : List Event → List Spot
gathered [] = []
gathered (e ∷ es) = gather (opened e) es

abbrev pub by_angle : Event → Event → Bool
by_angle x y = before x.angle y.angle

-- THE MERGED EVENTS of an unmerged list
unfoldable pub spots_of : List Event → List Spot
spots_of es = gathered (sort by_angle es)

-- how many corners are kept aside, repeats and all: "kept-aside corners" of document 01's work lists
abbrev pub aside_count : List Spot → ℕ
aside_count = sum_over (λ s. length s.extras)

-- how many are sides
abbrev pub side_count : List Spot → ℕ
side_count = sum_over (λ s. bit s.side)
