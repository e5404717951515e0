-- `walk::clip_box` meets its contract. Assumes nothing.
use Rattle.walk.specs.Clipping.{clip_box_of}
use Rattle.walk.proofs.clip_box.Goals as goal

pub returns-in_err-t0 : goal.returns-in_err-t0
unfolding clip_box_of
returns-in_err-t0 c = simp (c.from_residual.ensures, ← c.clip.ensures, c.in_err-t0.was)

pub returns : goal.returns
unfolding clip_box_of
returns c = simp (← c.clip.ensures, c.in_ok-t0.was, ← c.clip-2.ensures)
