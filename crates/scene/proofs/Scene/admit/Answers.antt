-- `admit`: soundness, and then the domain. Assumes nothing.
use Rattle.scene.specs.Asked.{asked, admit_of}
use Rattle.scene.proofs.Scene.admit.Goals as goal

pub returns-then-not-is_sound : goal.returns-then-not-is_sound
unfolding admit_of asked
returns-then-not-is_sound c = simp (← c.is_sound.ensures, c.if-not-is_sound.true)

pub returns-then-not-inside : goal.returns-then-not-inside
unfolding admit_of asked
returns-then-not-inside c = simp (← c.is_sound.ensures, c.if-not-is_sound.false, c.if-not-inside.true)

pub returns : goal.returns
unfolding admit_of asked
returns c = simp (← c.is_sound.ensures, c.if-not-is_sound.false, c.if-not-inside.false)
