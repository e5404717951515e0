-- `wkt_print::put_digits`: the digits from the last one on. Assumes nothing.
use mathlib.Core.Path.{◌∙◌}
use Rattle.wkt_print.proofs.Printing.{behind_more, behind_done}
use Rattle.wkt_print.proofs.put_digits.Goals as goal

pub loop-j-preserved : goal.loop-j-preserved
loop-j-preserved c = (behind_more c.loop-j.invariant.0 c.loop-j-test.true c.put.ensures, c.put.auto.s ∙ c.loop-j.invariant.1)

pub returns : goal.returns
returns c = behind_done c.loop-j.invariant.0 c.loop-j-test.false
