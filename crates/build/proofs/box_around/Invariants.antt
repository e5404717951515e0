-- `box_around`: the box grows by one point a turn. Assumes nothing.
use mathlib.Core.Path.{◌≡◌}
use Rattle.geom.specs.Box.{box_up_to}
use Rattle.build.specs.Stored.{ordered_at}
use Rattle.build.proofs.box_around.Given as goal

abbrev pub invariant-loop-i : goal.invariant-loop-i
invariant-loop-i l = l.b ≡ box_up_to (ordered_at l.reversed l.given l.first l.len) l.i
