-- `push_floats`: as many words more as there is room for.
use mathlib.Core.Path.{◌≡◌}
use Prim.Native.Nat.{◌+◌, ◌≤◌}
use lib.ListN.{length}
use Rattle.lines.proofs.push_floats.Given as goal

abbrev pub invariant-loop-i : goal.invariant-loop-i
invariant-loop-i l = (l.from ≤ l.at) × (l.at ≤ l.from + l.i) × (length l.out ≡ length l.initial.out)
