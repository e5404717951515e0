-- `grid::mark` meets its contract. Assumes nothing.
use Rattle.grid.proofs.Stamping.{mark_seen, mark_new, mark_off}
use mathlib.Core.Path.{refl}
use Rattle.grid.proofs.mark.Goals as goal

pub returns-then-marks-i : goal.returns-then-marks-i
returns-then-marks-i c = let it = mark_seen c.args.epoch c.args.marks.now c.args.id c.if-marks-i.true in record { value = it.0; marks_after = it.1 }

pub returns-then-i-marks : goal.returns-then-i-marks
returns-then-i-marks c = record { value = mark_new c.args.epoch c.args.marks.now c.args.id c.if-marks-i.false; marks_after = refl }

pub returns : goal.returns
returns c = let it = mark_off c.args.epoch c.args.marks.now c.args.id c.if-i-marks.false in record { value = it.0; marks_after = it.1 }
