-- `mark_all`: the edges from r on are marked. Assumes nothing.
use Rattle.std.proofs.Common.{◌∙◌, arith}
use Rattle.index.proofs.Notes.{not_said, is_said}
use Rattle.index.proofs.Passes.{tallied_none, mark_room, tallied_more, tallied_all}
use Rattle.index.proofs.mark_all.Goals as goal
use Rattle.index.proofs.mark_all.Goals.{else-p-eq-UNSAID, then-p-eq-UNSAID}

pub loop-r-init : goal.loop-r-init
loop-r-init c = tallied_none c.args.k c.args.floats.now c.args.x c.args.total c.args.n c.args.words.now c.requires c.starts_w-starts.result c.starts_w-starts.ensures

pub overflow_add-i : goal.overflow_add-i
overflow_add-i c = omega (arith, c.nearest_w-order.ensures, c.requires.ready.fit.words_fit, c.requires.ready.held, c.loop-r.invariant.left, c.loop-r.invariant.long)

pub offset_bounds-words-order : goal.offset_bounds-words-order
offset_bounds-words-order c = omega (arith, c.nearest_w-order.ensures, c.requires.ready.fit.words_fit, c.requires.ready.held, c.loop-r.invariant.left, c.loop-r.invariant.long)

pub bounds-words-order : goal.bounds-words-order
bounds-words-order c = omega (arith, c.nearest_w-order.ensures, c.requires.ready.fit.words_fit, c.requires.ready.held, c.loop-r.invariant.left, c.loop-r.invariant.long)

pub overflow_add-p : goal.overflow_add-p
overflow_add-p c = omega (arith, c.notes_w-notes.ensures, c.requires.ready.fit.words_fit, c.requires.ready.held, c.loop-r.invariant.left, c.loop-r.invariant.long)

pub offset_bounds-words-notes : goal.offset_bounds-words-notes
offset_bounds-words-notes c = omega (arith, c.notes_w-notes.ensures, c.requires.ready.fit.words_fit, c.requires.ready.held, c.loop-r.invariant.left, c.loop-r.invariant.long)

pub bounds-words-notes : goal.bounds-words-notes
bounds-words-notes c = omega (arith, c.notes_w-notes.ensures, c.requires.ready.fit.words_fit, c.requires.ready.held, c.loop-r.invariant.left, c.loop-r.invariant.long)

pub offset_bounds-words-starts : goal.offset_bounds-words-starts
offset_bounds-words-starts c = omega (arith, c.starts_w-starts.ensures, c.requires.ready.fit.words_fit, c.requires.ready.held, c.loop-r.invariant.left, c.loop-r.invariant.long)

pub slice_bounds-mark_edge-count : goal.slice_bounds-mark_edge-count
slice_bounds-mark_edge-count c = omega (arith, c.starts_w-starts.ensures, c.requires.ready.fit.words_fit, c.requires.ready.held, c.loop-r.invariant.left, c.loop-r.invariant.long)

pub slice_bounds-mark_edge-start : goal.slice_bounds-mark_edge-start
slice_bounds-mark_edge-start c = omega (arith, c.starts_w-starts.ensures, c.requires.ready.fit.words_fit, c.requires.ready.held, c.loop-r.invariant.left, c.loop-r.invariant.long)

pub mark_edge-requires : goal.mark_edge-requires
mark_edge-requires c = mark_room c.args.k c.args.floats.now c.args.x c.args.total c.args.n c.args.words.now c.requires c.starts_w-starts.result c.starts_w-starts.ensures c.loop-r.words c.loop-r.r c.loop-r-test.true c.loop-r.invariant c.nearest_w-order.result c.nearest_w-order.ensures c.notes_w-notes.result c.notes_w-notes.ensures c.if-p-eq-UNSAID.s (elim c.if-p-eq-UNSAID.branch [ then-p-eq-UNSAID v ↦ not_said _ _ v.if-p-eq-UNSAID.true (v.s-is ∙ v.edge_spans-s.ensures) | else-p-eq-UNSAID v ↦ is_said _ _ v.if-p-eq-UNSAID.false (v.s-is ∙ v.said-s.ensures) ])

pub loop-r-preserved : goal.loop-r-preserved
loop-r-preserved c = tallied_more c.args.k c.args.floats.now c.args.x c.args.total c.args.n c.args.words.now c.requires c.starts_w-starts.result c.starts_w-starts.ensures c.loop-r.words c.loop-r.r c.loop-r-test.true c.loop-r.invariant c.nearest_w-order.result c.nearest_w-order.ensures c.notes_w-notes.result c.notes_w-notes.ensures c.if-p-eq-UNSAID.s (elim c.if-p-eq-UNSAID.branch [ then-p-eq-UNSAID v ↦ not_said _ _ v.if-p-eq-UNSAID.true (v.s-is ∙ v.edge_spans-s.ensures) | else-p-eq-UNSAID v ↦ is_said _ _ v.if-p-eq-UNSAID.false (v.s-is ∙ v.said-s.ensures) ]) c.mark_edge.new.starts c.mark_edge.auto.starts c.mark_edge.ensures

pub returns : goal.returns
returns c = tallied_all c.args.k c.args.floats.now c.args.x c.args.total c.args.n c.args.words.now c.requires c.starts_w-starts.result c.starts_w-starts.ensures c.loop-r.words c.loop-r.r (omega arith) c.loop-r.invariant
