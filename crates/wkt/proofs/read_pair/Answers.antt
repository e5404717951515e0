-- `wkt::read_pair` meets its contract. Assumes nothing.
use Rattle.std.proofs.Common.{sym, ap, ◌∙◌, drop-drop}
use Rattle.wkt.proofs.Rings.{pair_none, pair_gap, pair_cut, pair_done}
use Rattle.wkt.specs.Number.{number}
use Rattle.wkt.proofs.read_pair.Goals as goal

pub returns-in_err-x-clause-seen : goal.returns-in_err-x-clause-seen
returns-in_err-x-clause-seen c = rw c.from_residual.ensures (pair_none _ _ (sym c.in_err-x.ensures.seen))

pub returns-then-not-spells_at-clause-seen : goal.returns-then-not-spells_at-clause-seen
returns-then-not-spells_at-clause-seen c = pair_gap _ _ _ _ (sym c.in_ok-x.ensures.seen) (sym c.if-not-spells_at.ensures)

pub returns-in_err-y-clause-seen : goal.returns-in_err-y-clause-seen
returns-in_err-y-clause-seen c =
    rw c.from_residual-in_err-y.ensures (pair_cut _ _ _ _ (sym c.in_ok-x.ensures.seen) (sym c.if-not-spells_at.ensures) (ap (number c.args.whole c.args.part) (drop-drop 1 c.in_ok-x.x.next c.args.s.now) ∙ sym c.in_err-y.ensures.seen))

pub returns-clause-seen : goal.returns-clause-seen
returns-clause-seen c =
    pair_done _ _ _ _ (sym c.in_ok-x.ensures.seen) _ _ (sym c.if-not-spells_at.ensures) (ap (number c.args.whole c.args.part) (drop-drop 1 c.in_ok-x.x.next c.args.s.now) ∙ sym c.in_ok-y.ensures.seen)
