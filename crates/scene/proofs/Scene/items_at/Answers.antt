-- `items_at`: refused and empty, or the part of the cell. Assumes nothing.
use Rattle.std.proofs.Common.{refl, ap, ◌∙◌, []}
use Rattle.scene.specs.Asked.{admit_of}
use Rattle.scene.specs.Answers.{items_at_of}
use Rattle.scene.proofs.Asking.{refused, admitted}
use Rattle.scene.proofs.Scene.items_at.Goals as goal

pub returns-in-Ok : goal.returns-in-Ok
unfolding items_at_of
returns-in-Ok c = admitted _ _ _ (λ r. []) _ (c.admit.ensures ∙ ap (admit_of _ _) c.point_in_domain.ensures) c.in-Ok.is (c.items_at.ensures ∙ rw c.load_point.ensures refl)

pub returns-in-Err : goal.returns-in-Err
unfolding items_at_of
returns-in-Err c = refused _ _ _ (λ r. []) _ (c.admit.ensures ∙ ap (admit_of _ _) c.point_in_domain.ensures) c.in-Err.is
