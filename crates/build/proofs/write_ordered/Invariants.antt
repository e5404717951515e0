-- `write_ordered`: one point a turn, at the place of the polygon. Assumes nothing.
use mathlib.Core.Path.{◌≡◌}
use Prim.Native.Nat.{◌*◌}
use lib.Seq.{sets}
use lib.ListN.{take}
use Rattle.build.specs.Stored.{ordered_at}
use Rattle.build.proofs.write_ordered.Given as goal

abbrev pub invariant-loop-i : goal.invariant-loop-i
invariant-loop-i l = l.points ≡ sets l.initial.points (2 * l.first) (take (2 * l.i) (ordered_at l.reversed l.given l.first l.len))
