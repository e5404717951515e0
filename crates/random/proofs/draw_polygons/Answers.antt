-- `draw_polygons`: polygon after polygon is drawn and stored, its points behind those before it. Assumes nothing.
use Rattle.random.proofs.Drawing.{few_points, head_is, from_is, next_first, next_polygon, next_ring, next_len}
use Rattle.random.specs.Draws.{state_of, len_at, points_to, points_of, lens_of}
use Rattle.lists.specs.Lists.{listed, sum_to}
use lib.Seq.{sets}
use Rattle.std.proofs.Common.{◌≡◌, ℕ, ◌*◌, refl, ap, ◌∙◌, arith}
use Rattle.random.proofs.draw_polygons.Goals as goal

pub loop-k-init : goal.loop-k-init
unfolding state_of points_to
loop-k-init c = (c.new-rng.ensures, refl, omega arith, refl, refl)

pub overflow_cast-h : goal.overflow_cast-h
overflow_cast-h c = omega (arith, few_points c.args.config c.loop-k.rng c.draw_head-h.ensures.value)

pub draw_ring-requires : goal.draw_ring-requires
draw_ring-requires c = (few_points c.args.config c.loop-k.rng c.draw_head-h.ensures.value, omega arith)

pub overflow_add-first : goal.overflow_add-first
overflow_add-first c = omega (arith, few_points c.args.config c.loop-k.rng c.draw_head-h.ensures.value)

pub loop-k-preserved : goal.loop-k-preserved
loop-k-preserved c =
    let h = head_is c.args.config c.loop-k.k c.loop-k.invariant.0 c.draw_head-h.ensures.value in
    let g = from_is c.args.config c.loop-k.k c.loop-k.invariant.0 c.draw_head-h.ensures.after in (
      next_polygon c.args.config c.loop-k.k c.draw_ring.ensures.after h g c.range-colour.ensures.after,
      next_first c.args.config c.loop-k.k c.loop-k.invariant.1 h,
      omega (arith, few_points c.args.config c.loop-k.rng c.draw_head-h.ensures.value),
      next_ring c.args.config c.loop-k.k c.args.given.now c.loop-k.invariant.3 c.draw_ring.ensures.given_after h g (ap (λ (n : ℕ). 2 * n) c.loop-k.invariant.1),
      next_len c.args.config c.loop-k.k c.args.lens.now c.loop-k.invariant.4 c.put.ensures h,
    )

pub returns : goal.returns
unfolding points_of lens_of
returns c =
    let n : c.loop-k.k ≡ c.args.config.polygon_count = omega arith in
    record {
      count_is = c.loop-k.invariant.1 ∙ ap (sum_to (len_at c.args.config)) n;
      few = omega arith;
      points_are = c.loop-k.invariant.3 ∙ ap (λ (k : ℕ). sets c.args.given.now 0 (points_to c.args.config k)) n;
      lens_are = c.loop-k.invariant.4 ∙ ap (λ (k : ℕ). sets c.args.lens.now 0 (listed (len_at c.args.config) k)) n;
    }
