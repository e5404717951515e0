-- `wkt::read_number` meets its contract. Assumes nothing.
use Rattle.std.proofs.Common.{sym, ◌∙◌}
use Rattle.wkt.proofs.Numerals.{number_minus, number_plain}
use Rattle.wkt.proofs.read_number.Goals as goal

pub returns-then-is_at-clause-seen : goal.returns-then-is_at-clause-seen
returns-then-is_at-clause-seen c = c.unsigned_number.ensures.seen ∙ number_minus _ _ c.args.s.now c.args.at (sym c.if-is_at.ensures)

pub returns-clause-seen : goal.returns-clause-seen
returns-clause-seen c = c.unsigned_number-2.ensures.seen ∙ number_plain _ _ c.args.s.now c.args.at (sym c.if-is_at.ensures)
