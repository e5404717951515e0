-- `draw_polygons`: polygon after polygon is drawn and stored, its points behind those before it. Assumes nothing.
use Rattle.random.specs.Draws.{state_of, len_at, points_to}
use Rattle.lists.specs.Lists.{listed, sum_to}
use lib.Seq.{sets}
use Rattle.std.proofs.Common.{◌≡◌, ◌*◌, ◌≤◌}
use Rattle.random.proofs.draw_polygons.Given as goal

abbrev pub invariant-loop-k : goal.invariant-loop-k
invariant-loop-k l =
    (l.rng ≡ state_of l.config l.k) × (l.first ≡ sum_to (len_at l.config) l.k) × (l.first ≤ 8 * l.k)
    × (l.given ≡ sets l.initial.given 0 (points_to l.config l.k)) × (l.lens ≡ sets l.initial.lens 0 (listed (len_at l.config) l.k))
