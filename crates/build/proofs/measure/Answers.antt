-- `measure`: bounds and sides grow by one polygon a turn. Assumes nothing.
use mathlib.Core.Path.{◌≡◌, refl, ap, ◌∙◌}
use Prim.Native.Nat.{ℕ, ◌≤◌}
use native.Mathlib.Numerals.{add-one}
use native.Mathlib.Omega.{arith}
use lib.ListN.{length}
use Rattle.lists.specs.Lists.{listed}
use Rattle.extent.proofs.Steps.{bounds_none, sides_none}
use Rattle.extent.specs.Extent.{bounds_of, sides_of}
use Rattle.build.specs.Stored.{stored_box, stored_boxes}
use Rattle.build.proofs.Spans.{bounds_more, sides_more, sides_most}
use Rattle.build.proofs.Orders.{held, held_is, box_is}
use Rattle.build.proofs.measure.Goals as goal

pub loop-len-init : goal.loop-len-init
loop-len-init c = (refl, bounds_none _ _, sides_none)

pub stored_box-b-requires : goal.stored_box-b-requires
stored_box-b-requires c = held_is c.args.given.now c.args.lens.now c.loop-len.len-index c.loop-len.first _ c.loop-len.invariant.0 refl c.requires (omega arith)

pub add_side-sides-requires : goal.add_side-sides-requires
add_side-sides-requires c =
    let m : c.loop-len.sides.count ≤ c.loop-len.len-index = sides_most (stored_box c.args.given.now c.args.lens.now) c.loop-len.len-index c.loop-len.sides c.loop-len.invariant.2 in
    omega (arith, c.requires.few_polygons)

pub overflow_add-first : goal.overflow_add-first
overflow_add-first c = omega (arith, held c.args.given.now c.args.lens.now c.loop-len.len-index c.requires (omega arith))

pub loop-len-preserved : goal.loop-len-preserved
loop-len-preserved c =
    let b = box_is c.args.given.now c.args.lens.now c.loop-len.len-index c.loop-len.first _ c.loop-len.invariant.0 refl c.stored_box-b.result c.stored_box-b.ensures in (
      rw (add-one c.loop-len.len-index) (omega (arith, c.loop-len.invariant.0)),
      bounds_more (stored_box c.args.given.now c.args.lens.now) c.loop-len.len-index c.args.width c.args.height c.loop-len.bounds c.stored_box-b.result _ c.loop-len.invariant.1 b c.join_box-bounds.ensures,
      sides_more (stored_box c.args.given.now c.args.lens.now) c.loop-len.len-index c.loop-len.sides _ c.stored_box-b.result c.loop-len.invariant.2 b c.add_side-sides.ensures,
    )

pub returns : goal.returns
unfolding stored_boxes
returns c =
    let k : c.loop-len.len-index ≡ length c.args.lens.now = omega arith in
    (c.loop-len.invariant.1 ∙ ap (λ (n : ℕ). bounds_of c.args.width c.args.height (listed (stored_box c.args.given.now c.args.lens.now) n)) k, c.loop-len.invariant.2 ∙ ap (λ (n : ℕ). sides_of (listed (stored_box c.args.given.now c.args.lens.now) n)) k)
