-- `circle`: the outline of the cone where it fits. Assumes nothing.
use Rattle.stages.proofs.Showing.{circle_over, circle_done}
use Rattle.stages.proofs.circle.Goals as goal

pub shape_of-outline-then-outline-n : goal.shape_of-outline-then-outline-n
shape_of-outline-then-outline-n c = c.draw-n.auto.out

pub returns-then-outline-n : goal.returns-then-outline-n
returns-then-outline-n c = circle_over _ _ _ _ _ _ _ c.draw-n.ensures c.draw-n.auto.out c.if-outline-n.true

pub shape_of-outline : goal.shape_of-outline
shape_of-outline c = c.draw-n.auto.out

pub returns : goal.returns
returns c = circle_done _ _ _ _ _ _ _ c.draw-n.ensures c.draw-n.auto.out c.if-outline-n.false c.is_full.ensures
