-- `height`: refused, or the loaded height. Assumes nothing.
use Rattle.std.proofs.Common.{ap, Ok, Err}
use Rattle.std.proofs.lemmas.Result.{err_from_is_err_and}
use Rattle.scene.specs.Answers.{height_of}
use Rattle.scene.proofs.Asking.{refused, admitted}
use Rattle.scene.proofs.Scene.height.Goals as goal

pub returns-in_err-admit : goal.returns-in_err-admit
unfolding height_of
returns-in_err-admit c =
    let p = err_from_is_err_and c.from_residual.result c.from_residual.ensures.1 in
    rw (p.1, p.2) (refused _ _ _ Err _ c.admit.ensures c.in_err-admit.was)

pub returns : goal.returns
unfolding height_of
returns c = admitted _ _ _ Err _ c.admit.ensures c.in_ok-admit.was (ap Ok c.load.ensures)
