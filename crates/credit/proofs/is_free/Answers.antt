-- `is_free`: a mark, none. Assumes nothing.
use lib.ListN.{length}
use borrow.Author.Tests.{le-ltb}
use Rattle.credit.proofs.Ways.{free_read, free_past}
use Rattle.credit.proofs.is_free.Goals as goal

pub returns-then-p-marks : goal.returns-then-p-marks
returns-then-p-marks c = free_read c.args.marks.now c.args.p c.if-p-marks.true

pub returns-else-p-marks : goal.returns-else-p-marks
returns-else-p-marks c = rw (le-ltb c.args.p (length c.args.marks.now) c.if-p-marks.false) (free_past c.args.marks.now c.args.p c.if-p-marks.false)
