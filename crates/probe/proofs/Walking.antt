-- What the loop over a walk keeps: the cells written so far and those that are left are all of them. Assumes nothing.
use Rattle.std.proofs.Common.{None, Some}
use mathlib.Core.Path.{◌≡◌, refl, sym, ap, ◌∙◌}
use mathlib.Core.List.{List, [], ◌∷◌, map}
use Prim.Native.Nat.{ℕ, suc, ◌+◌, ◌≤◌}
use native.Mathlib.Omega.{arith}
use lib.ListN.{length, set, length-set, length-map}
use lib.Ieee.{Float}
use lib.Seq.{sets}
use Rattle.geom.specs.declared.Vec2.{Vec2}
use Rattle.grid.specs.declared.Grid.{Grid}
use Rattle.walk.specs.declared.Course.{Course}
use Rattle.walk.specs.declared.Place.{Place}
use Rattle.walk.specs.Steps.{cell_number, step_of, left, OnGrid}
use Rattle.walk.specs.Clipping.{ray_start}
use Rattle.walk.specs.Tours.{ray_tour, ray_cells, passer_by}
use Rattle.walk.proofs.StepLaws.{moves}
use Rattle.walk.proofs.TourLaws.{tour_next, tour_end}
use Rattle.probe.specs.Numbers.{low, lows, cells_along}

along_next : (k : Course) (p q : Place) → step_of k p ≡ Some q → cells_along k p ≡ low (cell_number k p) ∷ cells_along k q
unfolding cells_along
along_next k p q e = ap (λ t. lows (map (cell_number k) t.places)) (tour_next passer_by k p q tt refl e)

along_end : (k : Course) (p : Place) → step_of k p ≡ None → cells_along k p ≡ low (cell_number k p) ∷ []
unfolding cells_along
along_end k p e = ap (λ t. lows (map (cell_number k) t.places)) (tour_end passer_by k p tt e)

-- n cells of the walk from p₀ are written, which leaves those from p on
pub record Left (k : Course) (p₀ p : Place) (out₀ out : List ℕ) (n : ℕ) : Type 0 where
  pub count : n + length (cells_along k p) ≡ length (cells_along k p₀)
  pub writes : sets out n (cells_along k p) ≡ sets out₀ 0 (cells_along k p₀)
  pub same : length out ≡ length out₀
  pub on_grid : OnGrid k p
  pub few : n + left k p ≤ left k p₀

pub begun : (k : Course) (p : Place) (out : List ℕ) → OnGrid k p → Left k p p out out 0
begun k p out h = record { count = omega arith; writes = refl; same = refl; on_grid = h; few = omega arith }

module _ (k : Course) (p₀ p : Place) (out₀ out : List ℕ) (n c m : ℕ) (out' : List ℕ) (l : Left k p₀ p out₀ out n) (o : out' ≡ set out n c) (x : c ≡ low (cell_number k p)) (s : m ≡ n + 1) where
  one : m ≡ suc n
  one = omega (arith, s)

  pub next : (q : Place) → step_of k p ≡ Some q → Left k p₀ q out₀ out' m
  next q e =
      let a = along_next k p q e in
      let w : sets (set out n (low (cell_number k p))) (suc n) (cells_along k q) ≡ sets out₀ 0 (cells_along k p₀) = rw a at l.writes in
      record {
        count = omega (arith, s, l.count, ap length a);
        writes = rw (o, x, one) w;
        same = ap length o ∙ length-set out n c ∙ l.same;
        on_grid = (moves k p q e).stays l.on_grid;
        few = omega (arith, s, l.few, (moves k p q e).fewer);
      }

  pub end_count : step_of k p ≡ None → m ≡ length (cells_along k p₀)
  end_count e = omega (arith, s, l.count, ap length (along_end k p e))

  pub end_out : step_of k p ≡ None → out' ≡ sets out₀ 0 (cells_along k p₀)
  end_out e =
      let w : set out n (low (cell_number k p)) ≡ sets out₀ 0 (cells_along k p₀) = rw (along_end k p e) at l.writes in
      rw (o, x) w

  pub same_now : length out' ≡ length out₀
  same_now = ap length o ∙ length-set out n c ∙ l.same

-- ---- the ray's cells are those of the walk from its first place; a ray that misses the grid has none
module _ (g : Grid) (o d : Vec2) (len : Float) where
  along_ray : (k : Course) (p : Place) → ray_start g o d len ≡ Some (k, p) → lows (ray_cells passer_by g o d len tt) ≡ cells_along k p
  unfolding ray_cells ray_tour cells_along
  along_ray k p e = rw e

  pub ray_out : (k : Course) (p : Place) (out out' : List ℕ) → ray_start g o d len ≡ Some (k, p) → out' ≡ sets out 0 (cells_along k p) → out' ≡ sets out 0 (lows (ray_cells passer_by g o d len tt))
  ray_out k p out out' e h = rw (along_ray k p e) h

  pub ray_count : (k : Course) (p : Place) (r : ℕ) → ray_start g o d len ≡ Some (k, p) → r ≡ length (cells_along k p) → r ≡ length (ray_cells passer_by g o d len tt)
  ray_count k p r e h = h ∙ ap length (sym (along_ray k p e)) ∙ length-map (ray_cells passer_by g o d len tt) low

  pub miss : ray_start g o d len ≡ None → ray_cells passer_by g o d len tt ≡ []
  unfolding ray_cells ray_tour
  miss e = rw e

  pub miss_out : (out : List ℕ) → ray_start g o d len ≡ None → out ≡ sets out 0 (lows (ray_cells passer_by g o d len tt))
  miss_out out e = rw (miss e)
