-- `wkt_print::print_point` meets its contract. Assumes nothing.
use Rattle.wkt_print.proofs.Printing.{then, byte}
use Rattle.wkt_print.proofs.Lengths.{number_length}
use native.Mathlib.Omega.{arith}
use mathlib.Core.Path.{refl}
use Rattle.wkt_print.proofs.print_point.Goals as goal

pub overflow_add-i : goal.overflow_add-i
overflow_add-i c = omega (arith, number_length c.args.places c.args.x, c.requires.0, c.requires.1)

pub print_number-requires : goal.print_number-requires
print_number-requires c = (c.requires.0, omega (arith, number_length c.args.places c.args.x, c.requires.0, c.requires.1))

pub returns : goal.returns
returns c = then c.print_number-i.ensures (then (byte _ c.print_number-i.result 32 _ _ c.put.ensures refl) c.print_number.ensures)
