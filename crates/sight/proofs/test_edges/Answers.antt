-- `test_edges`: after k turns the best is that of the first k edges, and the next edge starts at the corner before k. Assumes nothing.
use Rattle.sight.specs.Casting.{edges_up_to, edges_met}
use native.Mathlib.Numerals.{add-one}
use Rattle.geom.specs.Box.{corners}
use mathlib.Core.Path.{◌≡◌, refl, ap, ◌∙◌}
use Rattle.sight.proofs.Ways.{no_edges, next_edge}
use native.Mathlib.Omega.{arith}
use Rattle.sight.proofs.test_edges.Goals as goal

pub returns-then-n-eq0 : goal.returns-then-n-eq0
returns-then-n-eq0 c = no_edges _ _ _ _ _ c.if-n-eq0.true

pub loop-k-init : goal.loop-k-init
unfolding edges_up_to
loop-k-init c = (refl, refl, c.corner-a.ensures)

pub loop-k-preserved : goal.loop-k-preserved
loop-k-preserved c = (next_edge _ _ _ _ _ _ _ _ _ _ _ _ c.loop-k.invariant.0 c.loop-k.invariant.1 c.loop-k.invariant.2 c.corner-b.ensures c.ray_segment.ensures c.nearer-best.ensures, simp add-one, c.corner-b.ensures)

pub returns : goal.returns
unfolding edges_met
returns c =
    let e : c.loop-k.k ≡ corners c.args.ring.now = omega arith in
    c.loop-k.invariant.0 ∙ ap (edges_up_to _ _ _ _ _) e
