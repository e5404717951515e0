-- `same_tail`: compares the words one by one, up to the first that differs.
use mathlib.Core.Path.{◌≡◌}
use Prim.Native.Nat.{◌-◌}
use Rattle.lines.specs.Words.{alike}
use Rattle.lines.proofs.same_tail.Given as goal

abbrev pub invariant-loop-i : goal.invariant-loop-i
invariant-loop-i l = alike l.words l.results l.first l.i (l.r - l.i) ≡ alike l.words l.results l.first 0 l.r
