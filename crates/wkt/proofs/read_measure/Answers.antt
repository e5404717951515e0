-- `wkt::read_measure` meets its contract. Assumes nothing.
use Rattle.std.proofs.Common.{ℕ, List, drop, sym, ap, ◌∙◌, drop-drop}
use Rattle.wkt.specs.Rules.{rules}
use Rattle.wkt.specs.Parse.{got}
use Rattle.wkt.specs.Number.{number}
use Rattle.wkt.proofs.Prefix.{behind}
use Rattle.wkt.proofs.Texts.{measure_none, measure_bad, measure_end}
use Rattle.wkt.proofs.read_measure.Goals as goal

pub returns-then-not-spells_at-clause-seen : goal.returns-then-not-spells_at-clause-seen
returns-then-not-spells_at-clause-seen c = measure_none _ _ (sym c.if-not-spells_at.ensures)

pub returns-in_err-range-clause-seen : goal.returns-in_err-range-clause-seen
returns-in_err-range-clause-seen c =
    rw c.from_residual.ensures (measure_bad (rules c.args.whole c.args.part) (drop c.args.at c.args.s.now) (sym c.if-not-spells_at.ensures) (ap (number c.args.whole c.args.part) (drop-drop 1 c.args.at c.args.s.now) ∙ sym c.in_err-range.ensures.seen))

pub returns-in_err-next-clause-seen : goal.returns-in_err-next-clause-seen
returns-in_err-next-clause-seen c =
    rw c.from_residual-in_err-next.ensures (measure_end (rules c.args.whole c.args.part) (drop c.args.at c.args.s.now) _ c.in_ok-range.range.value (drop c.in_ok-range.range.next c.args.s.now) (sym c.if-not-spells_at.ensures) (ap (number c.args.whole c.args.part) (drop-drop 1 c.args.at c.args.s.now) ∙ sym c.in_ok-range.ensures.seen) c.in_err-next.ensures)

pub returns-clause-seen : goal.returns-clause-seen
returns-clause-seen c =
    let s = c.args.s.now in
    let range = c.in_ok-range.range in
    let next = c.in_ok-next.ensures in
    ap (λ (t : List ℕ). got range.value t) (sym (behind s range.next 2 _ next.1)) ∙ measure_end (rules c.args.whole c.args.part) (drop c.args.at s) _ range.value (drop range.next s) (sym c.if-not-spells_at.ensures) (ap (number c.args.whole c.args.part) (drop-drop 1 c.args.at s) ∙ sym c.in_ok-range.ensures.seen) next.0
