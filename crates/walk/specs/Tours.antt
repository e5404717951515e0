-- The walk as the Rust's `traverse_ray` runs it over its closure `visit` (grid.rs): each place is visited, the visitor says whether to go on, and a step is taken.
-- Definitions only.
use Rattle.std.specs.Prelude.{Bool, true, cond, List, [], ◌∷◌, map, ℕ, zero, suc, Float, None, Option, Some}
use Rattle.geom.specs.declared.Vec2.{Vec2}
use Rattle.grid.specs.declared.Grid.{Grid}
use Rattle.walk.specs.declared.Course.{Course}
use Rattle.walk.specs.declared.Place.{Place}
use Rattle.walk.specs.Clipping.{ray_start}
use Rattle.walk.specs.Steps.{cell_number, step_of, left}

-- What a visitor that keeps a state does at a place, and whether it then goes on. The course is at hand, for the cell and the exit.
pub record Visitor (S : Type 0) : Type 0 where
  pub sees : Course → Place → S → S
  pub goes : Course → Place → S → Bool

-- the places entered, in order, and the visitor's state at the end
pub record Tour (S : Type 0) : Type 0 where
  pub places : List Place
  pub final : S

module _ {S : Type 0} where
  -- the walk ends at p
  abbrev pub ends_at : Place → S → Tour S
  ends_at p s = record { places = p ∷ []; final = s }

  -- p, and then the rest
  abbrev pub before : Place → Tour S → Tour S
  before p t = record { places = p ∷ t.places; final = t.final }

  abbrev pub onward : Place → S → (Place → Tour S) → (Option Place) → Tour S
  onward p s f (Some q) = before p (f q)
  onward p s f None = ends_at p s

  -- at most n steps of it
  unfoldable pub tour_in : Visitor S → ℕ → Course → Place → S → Tour S
  tour_in v zero k p s = ends_at p (v.sees k p s)
  tour_in v (suc n) k p s =
      let t = v.sees k p s in
      cond (v.goes k p t) (onward p t (λ q. tour_in v n k q t) (step_of k p)) (ends_at p t)

  -- all of it: no more steps than the axes have left are ever taken
  unfoldable pub tour : Visitor S → Course → Place → S → Tour S
  tour v k p s = tour_in v (left k p) k p s

  abbrev pub tour_from : Visitor S → (Option (Course × Place)) → S → Tour S
  tour_from v (Some (k, p)) s = tour v k p s
  tour_from v None s = record { places = []; final = s }

-- the numbers of the places' cells
abbrev pub place_cells : (Option (Course × Place)) → List Place → List ℕ
place_cells (Some (k, p)) l = map (cell_number k) l
place_cells None l = []

-- what a visitor makes of the ray o + t * d, t from 0 to len, over a grid
unfoldable pub ray_tour : {S : Type 0} → Visitor S → Grid → Vec2 → Vec2 → Float → S → Tour S
ray_tour v g o d len s = tour_from v (ray_start g o d len) s

-- the cells that it enters
unfoldable pub ray_cells : {S : Type 0} → Visitor S → Grid → Vec2 → Vec2 → Float → S → List ℕ
ray_cells v g o d len s = place_cells (ray_start g o d len) (ray_tour v g o d len s).places

-- a visitor that sees nothing and never stops: its tour is the whole walk
abbrev pub passer_by : Visitor (Unit {0})
passer_by = record { sees = λ k p s. s; goes = λ k p s. true }
