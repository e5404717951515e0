-- `fan::touches`: the two tests of the Rust. Assumes nothing.
use Rattle.fan.specs.Sides.{touches_of}
use Rattle.fan.proofs.touches.Goals as goal

pub returns-then-cross-length_sq : goal.returns-then-cross-length_sq
unfolding touches_of
returns-then-cross-length_sq c = simp (← c.facing-cross.ensures, ← c.sub.ensures, ← c.length_sq.ensures, c.if-cross-length_sq.true, ← c.point_segment_distance.ensures)

pub returns-else-cross-length_sq : goal.returns-else-cross-length_sq
unfolding touches_of
returns-else-cross-length_sq c = simp (← c.facing-cross.ensures, ← c.sub.ensures, ← c.length_sq.ensures, c.if-cross-length_sq.false)
