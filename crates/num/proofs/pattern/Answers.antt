-- `num::pattern` meets its contract. Assumes nothing.
use Rattle.std.proofs.Common.{◌∙◌, inl, inr, arith}
use Rattle.num.proofs.RemBits.{doubled, pattern_is}
use Rattle.num.proofs.pattern.Goals as goal
use Rattle.num.proofs.pattern.Goals.{then-loop-q-test+else-z-lt4503599627370496, else-loop-q-test}

pub loop-q-preserved : goal.loop-q-preserved
loop-q-preserved c = (doubled c.loop-q.z c.loop-q.q c.loop-q-test.true ∙ c.loop-q.invariant.0, omega arith, omega arith)

pub returns : goal.returns
returns c =
    let p = pattern_is c.loop-q.z c.loop-q.q c.args.m c.args.k c.loop-q.invariant.0 c.loop-q.invariant.1 c.loop-q.invariant.2 in
    elim c.loop-q-test.branch [
      | then-loop-q-test+else-z-lt4503599627370496 w ↦ p (inr w.if-z-lt4503599627370496.false)
      | else-loop-q-test w ↦ p (inl (omega arith))
    ]
