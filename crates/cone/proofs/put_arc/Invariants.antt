-- `cone::put_arc` meets its contract: so far as many points are written as turns were made. Assumes nothing.
use mathlib.Core.Path.{◌≡◌}
use Prim.Native.Nat.{◌*◌}
use lib.Seq.{sets}
use Rattle.cone.specs.Cone.{arc_of, numbers_of}
use Rattle.cone.proofs.put_arc.Given as goal

abbrev pub invariant-loop-k : goal.invariant-loop-k
invariant-loop-k l = l.out ≡ sets l.initial.out (2 * l.at) (numbers_of (arc_of l.v l.r l.steps l.k))
