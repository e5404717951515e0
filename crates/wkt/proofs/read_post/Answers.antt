-- `wkt::read_post` meets its contract. Assumes nothing.
use Rattle.std.proofs.Common.{drop, sym, ap, ◌∙◌}
use Rattle.wkt.specs.Rules.{rules}
use Rattle.wkt.specs.Grammar.{pair}
use Rattle.wkt.specs.Parse.{got, wrong}
use Rattle.wkt.proofs.Prefix.{behind}
use Rattle.wkt.proofs.Texts.{post_none, post_by, post_end_lem}
use Rattle.wkt.proofs.read_post.Goals as goal

pub returns-in_err-start-clause-seen : goal.returns-in_err-start-clause-seen
returns-in_err-start-clause-seen c = rw c.from_residual.ensures (post_none (rules c.args.whole c.args.part) c.args.s.now c.in_err-start.ensures)

pub returns-in_err-at-clause-seen : goal.returns-in_err-at-clause-seen
returns-in_err-at-clause-seen c =
    let start = c.in_ok-start.ensures in
    rw c.from_residual-in_err-at.ensures (post_by (rules c.args.whole c.args.part) c.args.s.now wrong start.0 (ap (pair (rules c.args.whole c.args.part)) (behind c.args.s.now 0 9 _ start.1) ∙ sym c.in_err-at.ensures.seen))

pub returns-in_err-range-clause-seen : goal.returns-in_err-range-clause-seen
returns-in_err-range-clause-seen c =
    let start = c.in_ok-start.ensures in
    rw c.from_residual-in_err-range.ensures (post_end_lem (rules c.args.whole c.args.part) c.args.s.now _ _ _ wrong start.0 (ap (pair (rules c.args.whole c.args.part)) (behind c.args.s.now 0 9 _ start.1) ∙ sym c.in_ok-at.ensures.seen) (sym c.in_err-range.ensures.seen))

pub returns-clause-seen : goal.returns-clause-seen
returns-clause-seen c =
    let start = c.in_ok-start.ensures in
    let range = c.in_ok-range.range in
    post_end_lem (rules c.args.whole c.args.part) c.args.s.now _ _ _ (got range.value (drop range.next c.args.s.now)) start.0 (ap (pair (rules c.args.whole c.args.part)) (behind c.args.s.now 0 9 _ start.1) ∙ sym c.in_ok-at.ensures.seen) (sym c.in_ok-range.ensures.seen)
