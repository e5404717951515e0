-- `test_edges`: after k turns the best is that of the first k edges, and the next edge starts at the corner before k. Assumes nothing.
use Rattle.sight.specs.Casting.{nearer_of, edges_up_to}
use Rattle.geom.specs.Ring.{corner_before}
use Rattle.geom.specs.Box.{corner_of}
use mathlib.Core.Path.{◌≡◌}
use Rattle.sight.proofs.test_edges.Given as goal

abbrev pub invariant-loop-k : goal.invariant-loop-k
invariant-loop-k l = (l.best ≡ edges_up_to (nearer_of l.mode) l.ray l.ring l.first l.initial.best l.k) × (l.prev ≡ corner_before l.n l.k) × (l.a ≡ corner_of l.ring l.prev)
