-- `bounds`: refused, or the bounds of the loaded width and height and the boxes. Assumes nothing.
use Rattle.std.proofs.Common.{refl, ap, ◌∙◌, Ok, Err}
use Rattle.std.proofs.lemmas.Result.{err_from_is_err_and}
use Rattle.scene.specs.Answers.{bounds_of}
use Rattle.scene.proofs.Asking.{refused, admitted}
use Rattle.scene.proofs.Scene.bounds.Goals as goal

pub returns-in_err-admit : goal.returns-in_err-admit
unfolding bounds_of
returns-in_err-admit c =
    let p = err_from_is_err_and c.from_residual.result c.from_residual.ensures.1 in
    rw (p.1, p.2) (refused _ _ _ Err _ c.admit.ensures c.in_err-admit.was)

pub returns : goal.returns
unfolding bounds_of
returns c = admitted _ _ _ Err _ c.admit.ensures c.in_ok-admit.was (ap Ok (c.bounds_of.ensures ∙ rw (c.load-2.ensures, c.load.ensures) refl))
