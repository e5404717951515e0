-- What the loop over a ray's walk keeps: the cells entered so far and those that are left are all of them, and what is left ends as the whole does.
-- Assumes nothing.
use Rattle.std.proofs.Common.{None, Some}
use mathlib.Core.Path.{◌≡◌, refl, sym, ap, ◌∙◌}
use mathlib.Core.Bool.{true, false, not}
use mathlib.Core.List.{List}
use Prim.Native.Nat.{ℕ, ◌+◌, ◌≤◌}
use native.Mathlib.Omega.{arith}
use lib.ListN.{length}
use lib.Ieee.{Float, lt}
use borrow.Author.Tests.{not-true, not-false}
use Rattle.geom.specs.declared.Vec2.{Vec2}
use Rattle.grid.specs.declared.Grid.{Grid}
use Rattle.grid.specs.Entries.{cell_of}
use Rattle.walk.specs.declared.Course.{Course}
use Rattle.walk.specs.declared.Place.{Place}
use Rattle.walk.specs.Clipping.{ray_start}
use Rattle.walk.specs.Steps.{cell_number, exit_of, step_of, left, OnGrid}
use Rattle.walk.specs.Tours.{Visitor, ends_at, before, tour, ray_tour}
use Rattle.walk.proofs.StepLaws.{moves}
use Rattle.walk.proofs.TourLaws.{tour_next, tour_end, tour_stop}
use Rattle.sight.specs.Casting.{Rule, ray_of, nearer_of, recent_none, items_seen, looker, sighting_of, cast_ray_of}
use Rattle.sight.specs.declared.Look.{Look}
use Rattle.sight.specs.declared.Recent.{Recent}
use Rattle.sight.specs.declared.Sighting.{Sighting}
use Rattle.sight.specs.declared.Ray.{Ray}

-- n cells of the walk from p₀ are done, which leaves the walk from p on with the state s
pub record Left (v : Visitor Look) (k : Course) (p₀ p : Place) (s₀ s : Look) (n : ℕ) : Type 0 where
  pub count : n + length (tour v k p s).places ≡ length (tour v k p₀ s₀).places
  pub final : (tour v k p s).final ≡ (tour v k p₀ s₀).final
  pub on_grid : OnGrid k p
  pub few : n + left k p ≤ left k p₀

pub begun : (v : Visitor Look) (k : Course) (p : Place) (s : Look) → OnGrid k p → Left v k p p s s 0
begun v k p s h = record { count = omega arith; final = refl; on_grid = h; few = omega arith }

module _ (v : Visitor Look) (k : Course) (p₀ p : Place) (s₀ s s' : Look) (n : ℕ) (l : Left v k p₀ p s₀ s n) (is : s' ≡ v.sees k p s) where
  pub goes_on : (q : Place) → v.goes k p s' ≡ true → step_of k p ≡ Some q → Left v k p₀ q s₀ s' (n + 1)
  goes_on q g e =
      let t : tour v k p s ≡ before p (tour v k q s') = rw is (tour_next v k p q s (rw is at g) e) in
      record {
        count = omega (arith, l.count, ap (λ t. length t.places) t);
        final = sym (ap (λ t. t.final) t) ∙ l.final;
        on_grid = (moves k p q e).stays l.on_grid;
        few = omega (arith, l.few, (moves k p q e).fewer);
      }

  last : tour v k p s ≡ ends_at p s' → record { hit = s'.best.hit; cells = n + 1 } ≡ sighting_of (tour v k p₀ s₀)
  unfolding sighting_of
  last t =
      let c : n + 1 ≡ length (tour v k p₀ s₀).places = omega (arith, l.count, ap (λ t. length t.places) t) in
      let f : s' ≡ (tour v k p₀ s₀).final = sym (ap (λ t. t.final) t) ∙ l.final in
      rw (c, f)

  pub stops : v.goes k p s' ≡ false → record { hit = s'.best.hit; cells = n + 1 } ≡ sighting_of (tour v k p₀ s₀)
  stops g = last (rw is (tour_stop v k p s (rw is at g)))

  pub ends : step_of k p ≡ None → record { hit = s'.best.hit; cells = n + 1 } ≡ sighting_of (tour v k p₀ s₀)
  ends e = last (rw is (tour_end v k p s e))

-- ---- one turn of the loop, by what its calls answer: the cell's number, its ids, the state after them and the cell's exit
module _ (rule : Rule) (ray : Ray) (points boxes : List Float) (polygons starts items : List ℕ) (k : Course) (p₀ p : Place) (s₀ s s' : Look) (n c : ℕ) (ids : List ℕ)
    (l : Left (looker rule ray points boxes polygons starts items) k p₀ p s₀ s n) (is_cell : c ≡ cell_number k p) (is_part : ids ≡ cell_of starts items c)
    (is_state : s' ≡ items_seen rule ray points boxes polygons s ids) where
  sees : s' ≡ items_seen rule ray points boxes polygons s (cell_of starts items (cell_number k p))
  sees = rw (← is_cell, ← is_part) is_state

  module _ (exit : Float) (is_exit : exit ≡ exit_of k p) where
    pub turn_next : (q : Place) → not (lt exit s'.best.t) ≡ false → step_of k p ≡ Some q → Left (looker rule ray points boxes polygons starts items) k p₀ q s₀ s' (n + 1)
    turn_next q g e = goes_on (looker rule ray points boxes polygons starts items) k p₀ p s₀ s s' n l sees q (rw (← is_exit) (not-false _ g)) e

    pub turn_stop
        : not (lt exit s'.best.t) ≡ true
        → record { hit = s'.best.hit; cells = n + 1 } ≡ sighting_of (tour (looker rule ray points boxes polygons starts items) k p₀ s₀)
    turn_stop g = stops (looker rule ray points boxes polygons starts items) k p₀ p s₀ s s' n l sees (rw (← is_exit) (not-true _ g))

  pub turn_end : step_of k p ≡ None → record { hit = s'.best.hit; cells = n + 1 } ≡ sighting_of (tour (looker rule ray points boxes polygons starts items) k p₀ s₀)
  turn_end e = ends (looker rule ray points boxes polygons starts items) k p₀ p s₀ s s' n l sees e

-- ---- the whole cast
module _ (g : Grid) (points boxes : List Float) (polygons starts items : List ℕ) (o d : Vec2) (len : Float) (mode : ℕ) where
  pub cast_from
      : (k : Course) (p : Place) (r : Recent) (a : Sighting) → ray_start g o d len ≡ Some (k, p) → r ≡ recent_none
      → a ≡ sighting_of (tour (looker (nearer_of mode) (ray_of o d) points boxes polygons starts items) k p (record { best = record { t = len; hit = None }; recent = r }))
      → a ≡ cast_ray_of g points boxes polygons starts items o d len mode
  unfolding cast_ray_of ray_tour
  cast_from k p r a e f h = rw (e, ← f) h

  pub cast_miss : ray_start g o d len ≡ None → record { hit = None; cells = 0 } ≡ cast_ray_of g points boxes polygons starts items o d len mode
  unfolding cast_ray_of ray_tour sighting_of
  cast_miss e = rw e
