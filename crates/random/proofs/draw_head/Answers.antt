-- `draw_head`: the count, the centre and the radius are drawn in this order. Assumes nothing.
use Rattle.random.specs.Draws.{head_of}
use Rattle.random.proofs.draw_head.Goals as goal

pub returns-clause-value : goal.returns-clause-value
unfolding head_of
returns-clause-value c = simp (c.nearest_u64_to_f64-3.ensures, c.nearest_u64_to_f64-2.ensures, c.nearest_u64_to_f64.ensures, c.range-radius.ensures.value, c.range-y.ensures.after, c.range-y.ensures.value, c.to_u64-2.ensures, c.range-x.ensures.after, c.range-x.ensures.value, c.to_u64.ensures, c.range-count.ensures.after, c.range-count.ensures.value)

pub returns-clause-after : goal.returns-clause-after
unfolding head_of
returns-clause-after c = simp (c.range-radius.ensures.after, c.range-y.ensures.after, c.to_u64-2.ensures, c.range-x.ensures.after, c.to_u64.ensures, c.range-count.ensures.after)
