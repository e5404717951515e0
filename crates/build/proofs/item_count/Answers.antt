-- `item_count`: what is counted and what is left are together the cells of all boxes. Assumes nothing.
use mathlib.Core.Path.{refl}
use native.Mathlib.Numerals.{add-one}
use native.Mathlib.Omega.{arith}
use Rattle.build.proofs.Spans.{count_more, count_all}
use Rattle.build.proofs.Orders.{held, held_is, box_is}
use Rattle.build.proofs.item_count.Goals as goal

pub stored_box-requires : goal.stored_box-requires
stored_box-requires c = held_is c.args.given.now c.args.lens.now c.loop-len.len-index c.loop-len.first _ c.loop-len.invariant.0 refl c.requires.1 (omega arith)

pub overflow_add-first : goal.overflow_add-first
overflow_add-first c = omega (arith, held c.args.given.now c.args.lens.now c.loop-len.len-index c.requires.1 (omega arith))

pub loop-len-preserved : goal.loop-len-preserved
loop-len-preserved c =
    let b = box_is c.args.given.now c.args.lens.now c.loop-len.len-index c.loop-len.first _ c.loop-len.invariant.0 refl c.stored_box.result c.stored_box.ensures in (
      rw (add-one c.loop-len.len-index) (omega (arith, c.loop-len.invariant.0)),
      count_more c.args.g c.args.given.now c.args.lens.now c.loop-len.n c.loop-len.len-index c.cell_count-n.result c.stored_box.result (omega arith) c.loop-len.invariant.1 b c.cell_count-n.ensures.0,
      omega (arith, c.cell_count-n.ensures.1, c.requires.0.small),
    )

pub returns : goal.returns
returns c = count_all c.args.g c.args.given.now c.args.lens.now c.loop-len.n c.loop-len.len-index c.requires.0 (omega arith) (omega arith) c.loop-len.invariant.1
