-- `polygon`: refused, or the fields of the polygon. Assumes nothing.
use Rattle.std.proofs.Common.{refl, Err}
use Rattle.std.proofs.lemmas.Result.{err_from_is_err_and}
use Rattle.scene.specs.Answers.{polygon_of}
use Rattle.scene.proofs.Asking.{refused, admitted}
use Rattle.scene.proofs.Scene.polygon.Goals as goal

pub returns-in_err-admit : goal.returns-in_err-admit
unfolding polygon_of
returns-in_err-admit c =
    let p = err_from_is_err_and c.from_residual.result c.from_residual.ensures.1 in
    rw (p.1, p.2) (refused _ _ _ Err _ c.admit.ensures c.in_err-admit.was)

pub returns : goal.returns
unfolding polygon_of
returns c = admitted _ _ _ Err _ c.admit.ensures c.in_ok-admit.was (rw (c.box_at.ensures, c.len_of.ensures, c.first_of.ensures) refl)
