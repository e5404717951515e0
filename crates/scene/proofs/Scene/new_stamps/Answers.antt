-- `new_stamps`: refused and nothing written, or zero marks and epoch 0. Assumes nothing.
use Rattle.std.proofs.lemmas.Result.{err_from_is_err_and}
use Rattle.scene.proofs.Writing.{new_refused, new_seven, new_made}
use Rattle.scene.proofs.Scene.new_stamps.Goals as goal

pub returns-in_err-admit : goal.returns-in_err-admit
returns-in_err-admit c =
    let p = err_from_is_err_and c.from_residual.result c.from_residual.ensures.1 in
    rw (p.1, p.2) (new_refused _ _ _ _ _ c.admit.ensures _ c.in_err-admit.was)

pub returns-then-marks-self : goal.returns-then-marks-self
returns-then-marks-self c = new_seven _ _ _ _ _ c.admit.ensures c.in_ok-admit.was c.if-marks-self.true

pub returns : goal.returns
returns c = new_made _ _ _ _ _ c.admit.ensures c.in_ok-admit.was c.if-marks-self.false _ _ c.new_stamps.ensures.epoch_after c.new_stamps.ensures.marks_after
