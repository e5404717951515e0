-- `wkt::comma_pair` meets its contract. Assumes nothing.
use Rattle.std.proofs.Common.{drop, sym, ap, ◌∙◌}
use Rattle.wkt.proofs.Prefix.{behind, word_yes}
use Rattle.wkt.specs.Rules.{capital_of, rules}
use Rattle.wkt.specs.Grammar.{pair}
use Rattle.wkt.specs.Words.{comma}
use Rattle.wkt.proofs.comma_pair.Goals as goal

pub returns-clause-seen : goal.returns-clause-seen
returns-clause-seen c =
    let start = c.in_ok-start.ensures in
    c.read_pair.ensures.seen ∙ ap (pair (rules c.args.whole c.args.part)) (sym (behind c.args.s.now c.args.at 2 _ start.1)) ∙ word_yes capital_of comma (drop c.args.at c.args.s.now) (pair (rules c.args.whole c.args.part)) start.0
