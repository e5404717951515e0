-- `between`: the corners of an event, or what fills the gap.
use Rattle.std.proofs.Common.{refl, arith}
use Rattle.lists.proofs.Only.{only_refl}
use Rattle.sweep.proofs.Ways.{between_pair, between_gap, gap_front, done_pushed}
use Rattle.sweep.proofs.between.Goals as goal

pub see_corners-requires : goal.see_corners-requires
see_corners-requires c = (c.requires.0, c.requires.1.points)

pub shape_of-words-then-is_pair : goal.shape_of-words-then-is_pair
shape_of-words-then-is_pair c = c.see_corners.auto.words

pub shape_of-pts-then-is_pair : goal.shape_of-pts-then-is_pair
shape_of-pts-then-is_pair c = c.see_corners.auto.pts

pub returns-then-is_pair : goal.returns-then-is_pair
returns-then-is_pair c = record { result_after = between_pair _ _ _ _ _ _ c.is_pair.ensures c.if-is_pair.true c.see_corners.ensures.result_after; done = (done_pushed c.requires.1 c.see_corners.ensures.pushed.0, c.see_corners.ensures.pushed.1) }

pub slice_bounds-fill_gap-count : goal.slice_bounds-fill_gap-count
slice_bounds-fill_gap-count c = omega arith

pub slice_bounds-fill_gap-start : goal.slice_bounds-fill_gap-start
slice_bounds-fill_gap-start c = omega arith

pub slice_bounds-fill_gap-end : goal.slice_bounds-fill_gap-end
slice_bounds-fill_gap-end c = omega (arith, c.seen_w-w.ensures, c.requires.0)

pub fill_gap-requires : goal.fill_gap-requires
fill_gap-requires c = c.requires.1

pub shape_of-words : goal.shape_of-words
shape_of-words c = refl

pub shape_of-pts : goal.shape_of-pts
shape_of-pts c = c.fill_gap.auto.pts

pub shape_of-marks : goal.shape_of-marks
shape_of-marks c = c.fill_gap.auto.marks

pub returns : goal.returns
returns c = record { result_after = between_gap _ _ _ _ _ _ c.is_pair.ensures c.if-is_pair.false (gap_front c.args.k c.args.x c.args.floats.now c.args.words.now c.args.view c.args.tables.now.points.now c.args.tables.now.polygons.now c.args.tables.now.owners.now c.args.step c.args.a c.args.b _ c.seen_w-w.ensures c.fill_gap.ensures.result_after); done = (c.fill_gap.ensures.done, only_refl _ _ _) }
