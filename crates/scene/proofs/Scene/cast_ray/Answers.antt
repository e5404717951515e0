-- `cast_ray`: refused, or what the walk sees. Assumes nothing.
use Rattle.std.proofs.Common.{refl, ap, ◌∙◌, Ok, Err}
use Rattle.std.proofs.lemmas.Result.{err_from_is_err_and}
use Rattle.scene.specs.Asked.{admit_of}
use Rattle.scene.specs.Answers.{cast_ray_of}
use Rattle.scene.proofs.Asking.{refused, admitted}
use Rattle.scene.proofs.Scene.cast_ray.Goals as goal

pub returns-in_err-admit : goal.returns-in_err-admit
unfolding cast_ray_of
returns-in_err-admit c =
    let p = err_from_is_err_and c.from_residual.result c.from_residual.ensures.1 in
    rw (p.1, p.2) (refused _ _ _ Err _ (c.admit.ensures ∙ ap (admit_of _ _) c.ray_in_domain.ensures) c.in_err-admit.was)

pub returns : goal.returns
unfolding cast_ray_of
returns c = admitted _ _ _ Err _ (c.admit.ensures ∙ ap (admit_of _ _) c.ray_in_domain.ensures) c.in_ok-admit.was (ap Ok (c.cast_ray-seen.ensures ∙ rw (c.load.ensures, c.load_point-2.ensures, c.load_point.ensures) refl))
