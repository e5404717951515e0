-- `begin`: nothing in a full circle, the post in a sector.
use Rattle.sweep.proofs.Ways.{begin_full, begin_post, begin_none, begin_few, pushed_from}
use Rattle.sweep.proofs.begin.Goals as goal

pub returns-then-view : goal.returns-then-view
returns-then-view c = record { result_after = begin_full _ _ c.empty.ensures c.if-view.true; pushed = begin_none c.empty.ensures }

pub push-requires : goal.push-requires
push-requires c = begin_few c.empty-2.ensures

pub shape_of-pts : goal.shape_of-pts
shape_of-pts c = c.push.auto.pts

pub returns : goal.returns
returns c = record { result_after = begin_post _ _ c.empty-2.ensures c.if-view.false c.push.ensures.result_after; pushed = pushed_from c.empty-2.ensures c.push.ensures.pushed }
