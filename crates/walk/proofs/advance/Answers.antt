-- `walk::advance` meets its contract. Assumes nothing.
use Rattle.walk.proofs.StepLaws.{by_x, by_y}
use Rattle.walk.specs.Steps.{step_of}
use Rattle.walk.proofs.advance.Goals as goal

pub returns-then-exit-k : goal.returns-then-exit-k
unfolding step_of
returns-then-exit-k c = simp (← c.exit_of-exit.ensures, c.if-exit-k.true)

pub returns-in_ok-col : goal.returns-in_ok-col
returns-in_ok-col c = by_x c.args.k c.args.p c.exit_of-exit.result c.exit_of-exit.ensures c.if-exit-k.false c.moved.result _ c.if-p.true c.moved.ensures c.in_ok-col.was

pub returns-in_err-col : goal.returns-in_err-col
unfolding step_of
returns-in_err-col c = simp (c.from_residual.ensures, ← c.exit_of-exit.ensures, c.if-exit-k.false, c.if-p.true, ← c.moved.ensures, c.in_err-col.was)

pub returns-in_ok-row : goal.returns-in_ok-row
returns-in_ok-row c = by_y c.args.k c.args.p c.exit_of-exit.result c.exit_of-exit.ensures c.if-exit-k.false c.moved-else-p.result _ c.if-p.false c.moved-else-p.ensures c.in_ok-row.was

pub returns-in_err-row : goal.returns-in_err-row
unfolding step_of
returns-in_err-row c = simp (c.from_residual-in_err-row.ensures, ← c.exit_of-exit.ensures, c.if-exit-k.false, c.if-p.false, ← c.moved-else-p.ensures, c.in_err-row.was)
