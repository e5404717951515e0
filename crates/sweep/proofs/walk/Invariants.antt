-- `walk`: the samples from i on are left to walk.
use Rattle.sweep.proofs.Walking.{Head}
use Rattle.sweep.proofs.walk.Given as goal

abbrev pub invariant-loop-i : goal.invariant-loop-i
invariant-loop-i l = Head l.k l.x l.floats l.view l.step l.tables.points.now l.tables.polygons.now l.tables.owners.now l.n l.initial.words l.initial.pts l.initial.marks l.initial.t l.words l.pts l.marks l.t l.i
