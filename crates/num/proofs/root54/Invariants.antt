-- `num::root54` meets its contract. Assumes nothing.
use Rattle.std.proofs.Common.{◌-◌, ◌*◌, ◌≤◌}
use Rattle.num.proofs.root54.Given as goal

abbrev pub invariant-loop-c : goal.invariant-loop-c
invariant-loop-c l = l.c ≤ 134217727

abbrev pub decreases-loop-c : goal.decreases-loop-c
decreases-loop-c l = l.c

abbrev pub invariant-loop-c-2 : goal.invariant-loop-c-2
invariant-loop-c-2 l = (l.c ≤ 134217727) × (l.c * l.c ≤ l.m)

abbrev pub decreases-loop-c-2 : goal.decreases-loop-c-2
decreases-loop-c-2 l = 134217727 - l.c
