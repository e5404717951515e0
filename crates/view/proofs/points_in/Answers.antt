-- `points_in`: by the answer. Assumes nothing.
use Rattle.stages.specs.Shows.{points_in}
use Rattle.view.proofs.points_in.Goals as goal

pub returns-in-Ok : goal.returns-in-Ok
unfolding points_in
returns-in-Ok c = rw c.in-Ok.is

pub returns-in-Err : goal.returns-in-Err
unfolding points_in
returns-in-Err c = rw c.in-Err.is
