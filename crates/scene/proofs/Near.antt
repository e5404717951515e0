-- THE BOX QUERY OF A SITE, demand 3: over sound tables, with a mark for each polygon and fresh stamps, no id is listed twice, an id is listed exactly where it is an
-- entry of a cell that the box covers, and the entries read are those that these cells hold (`Fair` of `grid`). Refused or not, the stamps stay fresh, so that the
-- next query is answered alike. Assumes nothing.
use Rattle.std.proofs.Common.{Some}
use Prim.Native.Nat.{ℕ, ◌*◌, ◌≤◌}
use mathlib.Core.Path.{◌≡◌}
use mathlib.Core.Bool.{Bool, true, false, cond}
use mathlib.Core.List.{List}
use native.Mathlib.Nat.{mul-le-mul_left, mul-le-mul_right}
use native.Mathlib.Omega.{arith}
use lib.Dec.{ltb}
use lib.ListN.{length}
use borrow.Author.Tests.{le-ltb}
use Rattle.geom.specs.declared.Aabb.{Aabb}
use Rattle.grid.specs.declared.CellRange.{CellRange}
use Rattle.grid.specs.Range.{range_of, InGrid}
use Rattle.grid.specs.Stamps.{Fresh}
use Rattle.grid.specs.Query.{Outcome, outcome}
use Rattle.grid.proofs.Ranges.{range_in}
use Rattle.grid.proofs.FreshStamps.{query_fresh}
use Rattle.grid.proofs.BoxQuery.{Fair, fair_query}
use Rattle.site.specs.declared.Site.{Site}
use Rattle.site.specs.Tables.{Tables}
use Rattle.site.specs.Domain.{box_in_domain, load_box_of}
use Rattle.site.specs.Soundness.{sound_of, Sound}
use Rattle.site.proofs.SoundLaws.{sound, grid_sound, grid_named}
use Rattle.refusal.specs.declared.Refusal.TheVariants.{FewStamps, OutsideDomain, Unsound}
use Rattle.scene.specs.Asked.{asked}
use Rattle.scene.specs.Stamping.{kept, polygons_near_of}
use Rattle.scene.proofs.Asking.{answered}

-- the range of a box lies in a sound site's grid
in_grid : (site : Site) (t : Tables) (b : Aabb) (r : CellRange) → Sound site t → range_of site.grid b ≡ Some r → InGrid site.grid r
in_grid site t b r h e =
    let c : site.grid.cols * 1 ≤ site.grid.cols * site.grid.rows = mul-le-mul_left site.grid.cols h.has_rows in
    let d : 1 * site.grid.rows ≤ site.grid.cols * site.grid.rows = mul-le-mul_right site.grid.rows h.has_cols in
    range_in site.grid b r (omega (arith, h.has_cols)) (omega (arith, h.has_rows)) (omega (arith, c, h.few_cells)) (omega (arith, d, h.few_cells)) e

module _ (site : Site) (t : Tables) (b : Aabb) (m : List ℕ) (e : ℕ) (ids : List ℕ) where
  -- what is let through is the query of the grid
  pub asks : sound_of site t ≡ true → box_in_domain b ≡ true → site.polygons ≤ length m
      → polygons_near_of site t b m e ids ≡ outcome site.grid (load_box_of b) t.starts t.items m e (length ids)
  unfolding polygons_near_of
  asks s i l = rw (answered site t (box_in_domain b) (kept m e ids) _ s i, le-ltb (length m) site.polygons l)

  pub near_fair : sound_of site t ≡ true → box_in_domain b ≡ true → site.polygons ≤ length m → Fresh e m
      → (r : CellRange) → range_of site.grid (load_box_of b) ≡ Some r → Fair site.grid r t.starts t.items (length ids) (polygons_near_of site t b m e ids)
  near_fair s i l f r is =
      let h = sound site t s in
      rw (asks s i l)
      (fair_query site.grid (load_box_of b) r t.starts t.items m e (length ids) is (in_grid site t (load_box_of b) r h is) (grid_sound h) (grid_named h (length m) l) f)

  fresh_by : (s i l : Bool) (o : Outcome) → Fresh e m → Fresh o.epoch o.marks
      → Fresh (cond s (cond i (cond l (kept m e ids FewStamps) o) (kept m e ids OutsideDomain)) (kept m e ids Unsound)).epoch (cond s (cond i (cond l (kept m e ids FewStamps) o) (kept m e ids OutsideDomain)) (kept m e ids Unsound)).marks
  fresh_by true true true o f g = f
  fresh_by true true false o f g = g
  fresh_by true false l o f g = f
  fresh_by false i l o f g = f

  pub near_fresh : Fresh e m → Fresh (polygons_near_of site t b m e ids).epoch (polygons_near_of site t b m e ids).marks
  unfolding polygons_near_of asked
  near_fresh f =
      fresh_by (sound_of site t) (box_in_domain b) (ltb (length m) site.polygons) (outcome site.grid (load_box_of b) t.starts t.items m e (length ids)) f
      (query_fresh site.grid (load_box_of b) t.starts t.items m e (length ids) f)
