-- `print_seen`: the outline's line, then those of the polygons (Ways). Assumes nothing.
use native.Mathlib.Nat.{le_trans}
use Rattle.lists.specs.Parts.{part}
use Rattle.planner.proofs.Lines.{part_few, outline_length}
use Rattle.planner.proofs.Ways.{seen_way}
use native.Mathlib.Omega.{arith}
use borrow.Author.Rules.{rules}
use Rattle.planner.proofs.print_seen.Goals as goal

pub print_visible-requires : goal.print_visible-requires
print_visible-requires c = record { places_few = c.requires.3; points_few = c.requires.0; ids_few = search rules; at_few = let X = part 0 c.numbers_of-e.result c.args.outline.now in omega (arith, c.print_polygon-at.ensures.next, c.requires.3, outline_length c.args.places X (le_trans (part_few 0 c.numbers_of-e.result c.args.outline.now) c.requires.1)) }

pub returns : goal.returns
returns c = seen_way c.args.places c.args.shown.points c.args.shown.visible c.args.points.now c.args.polygons.now c.args.outline.now c.args.visible.now c.numbers_of-e.result c.min-k.result c.numbers_of-e.ensures c.min-k.ensures c.print_polygon-at.ensures c.print_visible.ensures
