-- How much the scan can find: a polygon edge gives at most one front edge, and a front edge at most two events; and the numbers of the front
-- edges are those of the polygons' points. Assumes nothing.
use mathlib.Core.Bool.{Bool, true, false, cond}
use mathlib.Core.List.{List, [], ◌∷◌}
use Rattle.std.specs.Prelude.{Option, Some, None}
use Prim.Native.Nat.{ℕ, zero, suc, ◌+◌, ◌*◌, ◌≤◌}
use native.Mathlib.Nat.{le_refl}
use native.Mathlib.Omega.{arith}
use lib.ListN.{length, length-append}
use lib.Ieee.{Float}
use Rattle.site.specs.Tables.{first_of, len_of}
use Rattle.cone.specs.declared.View.{View}
use Rattle.room.specs.declared.Event.{Event}
use Rattle.fan.specs.declared.FrontEdge.{FrontEdge}
use Rattle.fan.specs.declared.Found.{Found}
use Rattle.fan.specs.Fan.{Fanned, fanned, nothing, both, end_fan, touch_fan, seen_fan, side_fan, side_at, sides_fan, is_far, polygon_fan, fan_of}

-- at most c candidates, n front edges, and two events for each front edge
pub record Most (c n : ℕ) (g : Fanned) : Type 0 where
  pub candidates : g.candidates ≤ c
  pub edges : length g.edges ≤ n
  pub events : length g.events ≤ 2 * length g.edges

pub most_nothing : Most 0 0 nothing
most_nothing = record { candidates = le_refl 0; edges = le_refl 0; events = le_refl 0 }

pub most_both : {a b c d : ℕ} {g h : Fanned} → Most a b g → Most c d h → Most (a + c) (b + d) (both g h)
unfolding both
most_both {g = g} {h = h} p q = record {
  candidates = omega (arith, p.candidates, q.candidates);
  edges = omega (arith, length-append g.edges h.edges, p.edges, q.edges);
  events = omega (arith, length-append g.edges h.edges, length-append g.events h.events, p.events, q.events);
}

most_end : (e : Option Event) → length (end_fan e).events ≤ 1
most_end (Some e) = le_refl 1
most_end None = omega arith

most_seen : (touch : Bool) (s : Option FrontEdge) → Most 0 1 (both (touch_fan touch) (seen_fan s))
unfolding both
most_seen touch (Some f) = record {
  candidates = le_refl 0;
  edges = le_refl 1;
  events = omega (arith, length-append (end_fan f.start).events (end_fan f.stop).events, most_end f.start, most_end f.stop);
}
most_seen touch None = record { candidates = le_refl 0; edges = omega arith; events = le_refl 0 }

pub most_side : (f : Found) → Most 0 1 (side_fan f)
unfolding side_fan
most_side f = most_seen f.touch f.seen

pub most_sides : (v : View) (points : List Float) (first n m : ℕ) → Most 0 m (sides_fan v points first n m)
unfolding sides_fan
most_sides v points first n zero = most_nothing
most_sides v points first n (suc m) = more (most_both (most_sides v points first n m) (most_side (side_at v points first n m)))
  where
    more : {g : Fanned} → Most (0 + 0) (m + 1) g → Most 0 (suc m) g
    more p = record { candidates = omega (arith, p.candidates); edges = omega (arith, p.edges); events = p.events }

pub most_polygon : (v : View) (points boxes : List Float) (polygons : List ℕ) (id : ℕ) → Most 1 (len_of polygons id) (polygon_fan v points boxes polygons id)
unfolding polygon_fan
most_polygon v points boxes polygons id = by (is_far v boxes id)
  where
    one : Most 1 0 (fanned 1 [] [] false)
    one = record { candidates = le_refl 1; edges = le_refl 0; events = le_refl 0 }

    more : {g : Fanned} → Most (1 + 0) (0 + len_of polygons id) g → Most 1 (len_of polygons id) g
    more p = record { candidates = omega (arith, p.candidates); edges = omega (arith, p.edges); events = p.events }

    by : (b : Bool) → Most 1 (len_of polygons id) (cond b nothing (both (fanned 1 [] [] false) (sides_fan v points (first_of polygons id) (len_of polygons id) (len_of polygons id))))
    by true = record { candidates = omega arith; edges = omega arith; events = le_refl 0 }
    by false = more (most_both one (most_sides v points (first_of polygons id) (len_of polygons id) (len_of polygons id)))

-- ---- of a whole scan

-- Document 01's demand on the counts: two events for each front edge at most
pub events_twice : (v : View) (points boxes : List Float) (polygons ids : List ℕ)
    → length (fan_of v points boxes polygons ids).events ≤ 2 * length (fan_of v points boxes polygons ids).edges
unfolding fan_of both
events_twice v points boxes polygons [] = le_refl 0
events_twice v points boxes polygons (id ∷ ids) =
    let g = polygon_fan v points boxes polygons id in
    let h = fan_of v points boxes polygons ids in
    omega (arith, length-append g.edges h.edges, length-append g.events h.events, (most_polygon v points boxes polygons id).events, events_twice v points boxes polygons ids)

-- candidates are among the ids
pub candidates_most : (v : View) (points boxes : List Float) (polygons ids : List ℕ) → (fan_of v points boxes polygons ids).candidates ≤ length ids
unfolding fan_of both
candidates_most v points boxes polygons [] = le_refl 0
candidates_most v points boxes polygons (id ∷ ids) =
    omega (arith, (most_polygon v points boxes polygons id).candidates, candidates_most v points boxes polygons ids)
