-- `polygon_at`: refused, or what the cell holds. Assumes nothing.
use Rattle.std.proofs.Common.{refl, ap, ◌∙◌, Ok, Err}
use Rattle.std.proofs.lemmas.Result.{err_from_is_err_and}
use Rattle.scene.specs.Asked.{admit_of}
use Rattle.scene.specs.Answers.{polygon_at_of}
use Rattle.scene.proofs.Asking.{refused, admitted}
use Rattle.scene.proofs.Scene.polygon_at.Goals as goal

pub returns-in_err-admit : goal.returns-in_err-admit
unfolding polygon_at_of
returns-in_err-admit c =
    let p = err_from_is_err_and c.from_residual.result c.from_residual.ensures.1 in
    rw (p.1, p.2) (refused _ _ _ Err _ (c.admit.ensures ∙ ap (admit_of _ _) c.point_in_domain.ensures) c.in_err-admit.was)

pub returns : goal.returns
unfolding polygon_at_of
returns c = admitted _ _ _ Err _ (c.admit.ensures ∙ ap (admit_of _ _) c.point_in_domain.ensures) c.in_ok-admit.was (ap Ok (c.polygon_at.ensures ∙ rw c.load_point.ensures refl))
