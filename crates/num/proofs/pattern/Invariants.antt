-- `num::pattern` meets its contract. Assumes nothing.
use Rattle.std.proofs.Common.{◌≡◌, ◌*◌, ◌^◌, ◌<◌, ◌≤◌}
use Rattle.num.proofs.pattern.Given as goal

abbrev pub invariant-loop-q : goal.invariant-loop-q
invariant-loop-q l = (l.z * 2 ^ l.q ≡ l.m * 2 ^ l.k) × (l.z < 9007199254740992) × (l.q ≤ 2045)

abbrev pub decreases-loop-q : goal.decreases-loop-q
decreases-loop-q l = l.q
