-- `step`: each offset. Assumes nothing.
use Rattle.std.proofs.Common.{◌≢◌, arith}
use borrow.Author.Tests.{eq-eqb, ne_eqb}
use Rattle.rays.specs.Samples.{step_of}
use Rattle.rays.proofs.step.Goals as goal

pub returns-in-0 : goal.returns-in-0
unfolding step_of
returns-in-0 c = simp (eq-eqb _ _ c.in-0.is)

pub returns-in-1 : goal.returns-in-1
unfolding step_of
returns-in-1 c = rw c.in-1.is

pub returns-in_default : goal.returns-in_default
unfolding step_of
returns-in_default c =
    let not_before : c.args.offset ≢ 0 = omega arith in
    let not_at : c.args.offset ≢ 1 = omega arith in
    simp (ne_eqb _ _ not_before, ne_eqb _ _ not_at)
