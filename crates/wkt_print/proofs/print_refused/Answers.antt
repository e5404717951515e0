-- `wkt_print::print_refused` meets its contract. Assumes nothing.
use Rattle.wkt_print.proofs.Printing.{say, then}
use Rattle.wkt_print.proofs.Lengths.{whole_few}
use Rattle.wkt_print.specs.Decimal.{whole_text}
use native.Mathlib.Omega.{arith}
use mathlib.Core.Path.{ap}
use borrow.Author.Rules.{rules}
use Rattle.wkt_print.proofs.print_refused.Goals as goal

pub put_word-requires : goal.put_word-requires
put_word-requires c = (omega (arith, whole_few 10 c.from.result (omega arith) (omega arith), c.requires), search rules)

pub returns : goal.returns
returns c = then c.put_word-i.ensures (then (say (ap whole_text c.from.ensures) c.put_whole-j.ensures) c.put_word.ensures)
