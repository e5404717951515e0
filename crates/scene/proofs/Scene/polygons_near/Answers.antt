-- `polygons_near`: refused and nothing written, or what the query of the grid leaves. Assumes nothing.
use Rattle.std.proofs.Common.{ap, ◌∙◌}
use Rattle.std.proofs.lemmas.Result.{err_from_is_err_and}
use Rattle.scene.proofs.Writing.{near_refused, near_seven, near_asked}
use Rattle.scene.proofs.Asking.{admitted_sound}
use Rattle.site.proofs.SoundLaws.{sound, grid_sound}
use Rattle.scene.specs.Asked.{admit_of}
use Rattle.scene.proofs.Scene.polygons_near.Goals as goal

pub returns-in_err-admit : goal.returns-in_err-admit
returns-in_err-admit c =
    let p = err_from_is_err_and c.from_residual.result c.from_residual.ensures.1 in
    rw (p.1, p.2) (near_refused _ _ _ _ _ _ _ (c.admit.ensures ∙ ap (admit_of _ _) c.box_in_domain.ensures) _ c.in_err-admit.was)

pub returns-then-marks-self : goal.returns-then-marks-self
returns-then-marks-self c = near_seven _ _ _ _ _ _ _ (c.admit.ensures ∙ ap (admit_of _ _) c.box_in_domain.ensures) c.in_ok-admit.was c.if-marks-self.true

pub box_query-requires : goal.box_query-requires
box_query-requires c = grid_sound (sound _ _ (admitted_sound _ _ _ c.admit.ensures c.in_ok-admit.was))

pub returns : goal.returns
returns c = near_asked _ _ _ _ _ _ _ (c.admit.ensures ∙ ap (admit_of _ _) c.box_in_domain.ensures) c.in_ok-admit.was c.if-marks-self.false _ c.load_box.ensures _ _ _ _ c.box_query.ensures
