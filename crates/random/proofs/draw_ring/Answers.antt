-- `draw_ring`: the points of a polygon are drawn and stored one after the other. Assumes nothing.
use Rattle.random.proofs.Drawing.{corner_is, next_state, next_corner}
use Rattle.random.specs.Draws.{state_at, ring_of}
use Rattle.geom.specs.declared.Vec2.{Vec2}
use lib.Seq.{sets}
use Rattle.std.proofs.Common.{◌≡◌, ℕ, ◌+◌, ◌*◌, refl, ap, ◌∙◌, arith}
use Rattle.random.proofs.draw_ring.Goals as goal

pub loop-i-init : goal.loop-i-init
unfolding state_at ring_of
loop-i-init c = (refl, refl)

pub loop-i-preserved : goal.loop-i-preserved
loop-i-preserved c =
    let p = corner_is c.args.h c.args.rng.now c.loop-i.i c.loop-i.invariant.0 c.draw_corner-corner.ensures.value in (
      next_state c.args.h c.args.rng.now c.loop-i.i c.loop-i.invariant.0 c.draw_corner-corner.ensures.after,
      next_corner c.args.h c.args.rng.now c.loop-i.i c.args.given.now (2 * c.args.first) (2 * (c.args.first + c.loop-i.i)) c.loop-i.invariant.1 c.put.ensures c.put-in-loop-i.ensures (omega arith) (ap (λ (v : Vec2). v.x) p) (ap (λ (v : Vec2). v.y) p),
    )

pub returns : goal.returns
returns c =
    let n : c.loop-i.i ≡ c.args.h.count = omega arith in
    record {
      after = c.loop-i.invariant.0 ∙ ap (state_at c.args.h c.args.rng.now) n;
      given_after = c.loop-i.invariant.1 ∙ ap (λ (k : ℕ). sets c.args.given.now (2 * c.args.first) (ring_of c.args.h c.args.rng.now k)) n;
    }
