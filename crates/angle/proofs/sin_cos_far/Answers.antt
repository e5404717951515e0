-- `angle::sin_cos_far` meets its contract. Assumes nothing.
use Rattle.angle.specs.Angles.{sin_far, cos_far}
use Rattle.angle.proofs.sin_cos_far.Goals as goal

pub returns : goal.returns
unfolding sin_far cos_far
returns c = (simp (c.turned.ensures.0, c.cos_near.ensures, c.sin_near.ensures, c.quadrant_of-q.ensures, c.left_over-r.ensures, c.turns_in-k.ensures), simp (c.turned.ensures.1, c.cos_near.ensures, c.sin_near.ensures, c.quadrant_of-q.ensures, c.left_over-r.ensures, c.turns_in-k.ensures))
