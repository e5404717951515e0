-- The counts of a scan stay small: what is added to them is bounded by the polygons' points. And the room stays long enough. Assumes nothing.
use mathlib.Core.List.{List}
use Rattle.std.specs.Prelude.{Option, Some, None}
use Prim.Native.Nat.{ℕ, ◌+◌, ◌*◌, ◌^◌, ◌≤◌, ◌<◌}
use native.Mathlib.Omega.{arith}
use lib.ListN.{length}
use lib.Ieee.{Float}
use Rattle.room.specs.declared.Rooms.{Rooms}
use Rattle.room.specs.declared.LocalEdge.{LocalEdge}
use Rattle.room.specs.declared.Event.{Event}
use Rattle.room.specs.Layout.{Fit}
use Rattle.cone.specs.declared.View.{View}
use Rattle.site.specs.Tables.{first_of, len_of}
use Rattle.fan.specs.declared.Tally.{Tally}
use Rattle.fan.specs.Fan.{Fanned, edge_fan, end_fan, sides_fan, polygon_fan, zero_tally, Added, Below, Inside}
use Rattle.fan.proofs.Bounds.{most_sides, most_polygon}

-- nothing is more than d
pub record Grows (d : ℕ) (g : Fanned) : Type 0 where
  pub candidates : g.candidates ≤ d
  pub edges : length g.edges ≤ d
  pub events : length g.events ≤ d

pub grows_edge : (e : LocalEdge) → Grows 1 (edge_fan e)
grows_edge e = record { candidates = omega arith; edges = omega arith; events = omega arith }

pub grows_end : (e : Option Event) → Grows 1 (end_fan e)
grows_end (Some e) = record { candidates = omega arith; edges = omega arith; events = omega arith }
grows_end None = record { candidates = omega arith; edges = omega arith; events = omega arith }

pub grows_sides : (v : View) (points : List Float) (first n m : ℕ) → m ≤ 65536 → Grows 131072 (sides_fan v points first n m)
grows_sides v points first n m h =
    let p = most_sides v points first n m in
    record { candidates = omega (arith, p.candidates); edges = omega (arith, p.edges); events = omega (arith, p.edges, p.events) }

module _ {k : Rooms} {g : Fanned} {t t' : Tally} {f f' : List Float} {w w' : List ℕ} (a : Added k g t f w t' f' w') where
  pub fit_after : Fit k (length f) (length w) → Fit k (length f') (length w')
  fit_after p = record { floats_fit = omega (arith, p.floats_fit, a.floats_only.long); words_fit = omega (arith, p.words_fit, a.words_only.long) }

  pub below_after : {b : ℕ} (b' d : ℕ) → b + d ≤ b' → Grows d g → Below b t → Below b' t'
  below_after b' d h p q = record {
    candidates = omega (arith, h, a.candidates, p.candidates, q.candidates);
    edges = omega (arith, h, a.edges, p.edges, q.edges);
    events = omega (arith, h, a.events, p.events, q.events);
  }

-- ---- after m ids

pub record Met (m : ℕ) (t : Tally) : Type 0 where
  pub candidates : t.candidates ≤ m
  pub edges : t.edges ≤ 65536 * m
  pub events : t.events ≤ 131072 * m

pub met_none : Met 0 zero_tally
met_none = record { candidates = omega arith; edges = omega arith; events = omega arith }

pub met_more : (v : View) (points boxes : List Float) (polygons : List ℕ) (id : ℕ) {m : ℕ} {k : Rooms} {t t' : Tally} {f f' : List Float} {w w' : List ℕ}
    → Inside (first_of polygons id) (len_of polygons id) → Added k (polygon_fan v points boxes polygons id) t f w t' f' w' → Met m t → Met (m + 1) t'
met_more v points boxes polygons id h a q =
    let p = most_polygon v points boxes polygons id in
    record {
      candidates = omega (arith, a.candidates, p.candidates, q.candidates);
      edges = omega (arith, h, a.edges, p.edges, q.edges);
      events = omega (arith, h, a.events, p.edges, p.events, q.events);
    }

pub met_below : {m : ℕ} {t : Tally} → m < 2 ^ 32 → Met m t → Below (2 ^ 59) t
met_below h q = record {
  candidates = omega (arith, h, q.candidates);
  edges = omega (arith, h, q.edges);
  events = omega (arith, h, q.events);
}
