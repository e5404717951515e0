-- `same_tail`: compares the words one by one, up to the first that differs.
use mathlib.Core.Path.{◌∙◌}
use Rattle.lines.proofs.Words.{alike_more}
use Rattle.lines.proofs.same_tail.Goals as goal

pub loop-i-preserved : goal.loop-i-preserved
loop-i-preserved c = alike_more c.args.words.now c.args.results.now c.args.n c.args.r c.loop-i.i c.loop-i-test.true (cc) ∙ c.loop-i.invariant
