-- WHAT THE SHORTER TEST GIVES, where points and polygons alone are lent (document 02, Q-6): `plain` and `plain_tested`, the record `SoundPlain` from the test and the test from the record;
-- `sound_plain_lem`: sound tables pass it, so that what is refused as 6 without tables is refused as 6 with them. Assumes nothing.
use mathlib.Core.Path.{◌≡◌, ◌∙◌}
use mathlib.Core.Bool.{true, and-true}
use mathlib.Core.List.{List}
use Prim.Native.Nat.{ℕ, ◌*◌, ◌≤◌}
use lib.ListN.{length}
use lib.Ieee.{Float}
use borrow.Author.Tests.{leb-true, le-leb}
use Rattle.lists.proofs.AllTo.{both}
use Rattle.site.specs.declared.Site.{Site}
use Rattle.site.specs.Tables.{Tables, point_stride, polygon_stride}
use Rattle.site.specs.Domain.{point_in_domain}
use Rattle.site.specs.Soundness.{counts_within, points_in_domain, cell_right, cells_within, parts_inside, sound_plain, Sound, SoundPlain}
use Rattle.site.proofs.SoundLaws.{few, points_are_in, cell_is, cells_in, parts_in, counts_pass, points_pass, cell_passes, cells_pass, parts_pass}

module _ (s : Site) (points : List Float) (polygons : List ℕ) where
  -- ---- the last line decides where the others pass
  by_parts : point_stride * s.points ≤ length points → polygon_stride * s.polygons ≤ length polygons → counts_within s ≡ true → point_in_domain s.grid.origin ≡ true → cell_right s.grid ≡ true → cells_within s ≡ true
      → points_in_domain s.points points ≡ true → sound_plain s points polygons ≡ parts_inside s.polygons s.points polygons
  unfolding sound_plain
  by_parts a b c d e f g = simp (le-leb _ _ a, le-leb _ _ b, c, d, e, f, g, and-true)

  -- ---- what it gives
  pub plain : sound_plain s points polygons ≡ true → SoundPlain s points polygons
  unfolding sound_plain
  plain e =
      let parts = both _ _ e in
      let cells = both _ _ parts.0 in
      let cell = both _ _ cells.0 in
      let inside = both _ _ cell.0 in
      let origin = both _ _ inside.0 in
      let counts = both _ _ origin.0 in
      let long = both _ _ counts.0 in
      let n = few s counts.1 in
      let g = cell_is s.grid cell.1 in
      let c = cells_in s cells.1 in
      record {
        points_long = leb-true _ _ long.0;
        polygons_long = leb-true _ _ long.1;
        few_polygons = n.0;
        few_points = n.1;
        has_cols = c.0;
        has_rows = c.1;
        few_cells = c.2;
        origin_in = origin.1;
        point_in = points_are_in s.points points inside.1;
        cell_least = g.0;
        cell_finite = g.1;
        inverse = g.2;
        inside = parts_in s.polygons s.points polygons parts.1;
      }

  -- and the other way round
  pub plain_tested : SoundPlain s points polygons → sound_plain s points polygons ≡ true
  plain_tested h =
      by_parts h.points_long h.polygons_long
      (counts_pass s h.few_polygons h.few_points)
      h.origin_in
      (cell_passes s.grid h.cell_least h.cell_finite h.inverse)
      (cells_pass s h.has_cols h.has_rows h.few_cells)
      (points_pass s.points points h.point_in)
      ∙ parts_pass s.polygons s.points polygons h.inside

-- ---- OF SOUND TABLES
pub sound_plain_lem : (s : Site) (t : Tables) → Sound s t → SoundPlain s t.points t.polygons
sound_plain_lem s t h = record {
  points_long = h.points_long;
  polygons_long = h.polygons_long;
  few_polygons = h.few_polygons;
  few_points = h.few_points;
  has_cols = h.has_cols;
  has_rows = h.has_rows;
  few_cells = h.few_cells;
  origin_in = h.origin_in;
  point_in = h.point_in;
  cell_least = h.cell_least;
  cell_finite = h.cell_finite;
  inverse = h.inverse;
  inside = h.inside;
}
