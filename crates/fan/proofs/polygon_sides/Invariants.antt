-- `fan::polygon_sides`: the edges of one polygon, one after the other. Assumes nothing.
use Rattle.fan.specs.Fan.{sides_fan, Added}
use Rattle.fan.proofs.polygon_sides.Given as goal

abbrev pub invariant-loop-i : goal.invariant-loop-i
invariant-loop-i l = Added l.k (sides_fan l.view l.points l.first l.n l.i) l.initial.s l.initial.floats l.initial.words l.s l.floats l.words
