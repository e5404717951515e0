-- The head of a site as it is handed in: six floats, width, height, the grid's origin, its cell and the inverse; and five numbers, columns, rows, polygons, points
-- and items. Definitions only.
use Rattle.std.specs.Prelude.{ℕ, List, get_or, Float}
use Rattle.std.specs.Float.{nan}
use Rattle.geom.specs.Vec.{vec}
use Rattle.grid.specs.declared.Grid.{Grid}
use Rattle.site.specs.declared.Site.{Site}

abbrev pub grid_by : List Float → List ℕ → Grid
grid_by f n = record {
  origin = vec (get_or f 2 nan) (get_or f 3 nan);
  cell = get_or f 4 nan;
  inv_cell = get_or f 5 nan;
  cols = get_or n 0 0;
  rows = get_or n 1 0;
}

unfoldable pub site_of : List Float → List ℕ → Site
site_of f n = record {
  width = get_or f 0 nan;
  height = get_or f 1 nan;
  grid = grid_by f n;
  polygons = get_or n 2 0;
  points = get_or n 3 0;
  items = get_or n 4 0;
}
