-- `draw_ring`: the points of a polygon are drawn and stored one after the other. Assumes nothing.
use Rattle.random.specs.Draws.{state_at, ring_of}
use lib.Seq.{sets}
use Rattle.std.proofs.Common.{◌≡◌, ◌*◌}
use Rattle.random.proofs.draw_ring.Given as goal

abbrev pub invariant-loop-i : goal.invariant-loop-i
invariant-loop-i l = (l.rng ≡ state_at l.h l.initial.rng l.i) × (l.given ≡ sets l.initial.given (2 * l.first) (ring_of l.h l.initial.rng l.i))
