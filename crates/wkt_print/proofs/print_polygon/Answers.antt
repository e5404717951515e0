-- `wkt_print::print_polygon` meets its contract. Assumes nothing.
use Rattle.wkt_print.proofs.Printing.{say, then, polygon_none, polygon_some}
use Rattle.wkt_print.proofs.Lengths.{point_length, list_room}
use Rattle.wkt.specs.Grammar.{point}
use lib.Ieee.{nan}
use lib.ListN.{get_or}
use native.Mathlib.Omega.{arith}
use borrow.Author.Rules.{rules}
use Rattle.wkt_print.proofs.print_polygon.Goals as goal

pub returns-then-pts-lt2 : goal.returns-then-pts-lt2
returns-then-pts-lt2 c = say (polygon_none c.args.places c.args.pts.now (omega arith)) c.put_word.ensures

pub print_points-j-requires : goal.print_points-j-requires
print_points-j-requires c = (c.requires.0, c.requires.1, omega (arith, c.requires.2))

pub print_point-k-requires : goal.print_point-k-requires
print_point-k-requires c = (c.requires.0, omega (arith, list_room c.args.places c.args.pts.now c.requires.0 c.requires.1, c.requires.2))

pub put_word-requires-2 : goal.put_word-requires-2
put_word-requires-2 c = (omega (arith, list_room c.args.places c.args.pts.now c.requires.0 c.requires.1, point_length c.args.places (point (get_or c.args.pts.now 0 nan) (get_or c.args.pts.now 1 nan)), c.requires.0, c.requires.2), search rules)

pub returns : goal.returns
returns c = say (polygon_some c.args.places c.args.pts.now (omega arith)) (then c.put_word-i.ensures (then c.print_points-j.ensures (then c.print_point-k.ensures c.put_word-2.ensures)))
