-- `draw_corner`: one fraction is drawn, and the point follows from it. Assumes nothing.
use Rattle.random.specs.Draws.{corner_by, angle_at}
use Rattle.random.proofs.draw_corner.Goals as goal

pub returns-clause-value : goal.returns-clause-value
unfolding corner_by angle_at
returns-clause-value c = simp (c.add.ensures, c.mul.ensures, c.from_angle.ensures, c.next_f64.ensures.value, c.nearest_u64_to_f64-2.ensures, c.nearest_u64_to_f64.ensures)

pub returns-clause-after : goal.returns-clause-after
unfolding corner_by
returns-clause-after c = c.next_f64.ensures.after
