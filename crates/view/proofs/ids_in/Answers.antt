-- `ids_in`: by the answer. Assumes nothing.
use Rattle.stages.specs.Shows.{ids_in}
use Rattle.view.proofs.ids_in.Goals as goal

pub returns-in-Ok : goal.returns-in-Ok
unfolding ids_in
returns-in-Ok c = rw c.in-Ok.is

pub returns-in-Err : goal.returns-in-Err
unfolding ids_in
returns-in-Err c = rw c.in-Err.is
