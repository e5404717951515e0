-- `print_stored`: the line of a polygon's part of the points. Assumes nothing.
use mathlib.Core.Path.{ap}
use mathlib.Core.List.{List}
use native.Mathlib.Omega.{arith}
use lib.ListN.{length}
use lib.Ieee.{Float}
use Rattle.wkt_print.specs.Lines.{points_of, polygon_text}
use Rattle.wkt_print.proofs.Printing.{say}
use Rattle.planner.proofs.Lines.{verts_few}
use Rattle.planner.proofs.print_stored.Goals as goal

pub print_polygon-requires : goal.print_polygon-requires
print_polygon-requires c = (c.requires.2, let e = ap length c.verts_of.ensures in omega (arith, e, verts_few c.args.points.now c.args.polygons.now c.args.k, c.requires.0), c.requires.1)

pub returns : goal.returns
returns c = say (ap (λ (l : List Float). polygon_text c.args.places (points_of l)) c.verts_of.ensures) c.print_polygon.ensures
