-- `arc`: the points from i on are left.
use Rattle.sweep.proofs.Ways.{Arcing}
use Rattle.sweep.proofs.arc.Given as goal

abbrev pub invariant-loop-i : goal.invariant-loop-i
invariant-loop-i l = Arcing l.view l.angle l.gap l.steps l.initial.pts l.initial.t l.pts l.t l.i
