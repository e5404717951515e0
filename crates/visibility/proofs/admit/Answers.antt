-- `admit`: 6, then 1, then 7. Assumes nothing.
use Rattle.std.proofs.Common.{sym, ◌∙◌}
use Rattle.visibility.proofs.Admitting.{admit_six, admit_one, admit_mode, admit_seven, admit_none}
use Rattle.visibility.proofs.admit.Goals as goal

pub returns-then-not-is_sound : goal.returns-then-not-is_sound
returns-then-not-is_sound c = admit_six _ _ _ _ _ (sym c.is_sound.ensures ∙ c.if-not-is_sound.true)

pub returns-then-not-in_domain : goal.returns-then-not-in_domain
returns-then-not-in_domain c = admit_one _ _ _ _ _ (sym c.is_sound.ensures ∙ c.if-not-is_sound.false) (sym c.in_domain.ensures ∙ c.if-not-in_domain.true)

pub returns-then-mode-gt1 : goal.returns-then-mode-gt1
returns-then-mode-gt1 c = admit_mode _ _ _ _ _ (sym c.is_sound.ensures ∙ c.if-not-is_sound.false) (sym c.in_domain.ensures ∙ c.if-not-in_domain.false) c.if-mode-gt1.true

pub returns-then-marks-scene : goal.returns-then-marks-scene
returns-then-marks-scene c = admit_seven _ _ _ _ _ (sym c.is_sound.ensures ∙ c.if-not-is_sound.false) (sym c.in_domain.ensures ∙ c.if-not-in_domain.false) c.if-mode-gt1.false c.if-marks-scene.true

pub returns : goal.returns
returns c = admit_none _ _ _ _ _ (sym c.is_sound.ensures ∙ c.if-not-is_sound.false) (sym c.in_domain.ensures ∙ c.if-not-in_domain.false) c.if-mode-gt1.false c.if-marks-scene.false
