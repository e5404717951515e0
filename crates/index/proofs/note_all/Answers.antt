-- `note_all`: the first r of the order have their notes. Assumes nothing.
use Rattle.std.proofs.Common.{arith}
use Rattle.index.proofs.Notes.{noting_none, note_fits, noting_more, noting_all}
use Rattle.index.proofs.note_all.Goals as goal

pub loop-r-init : goal.loop-r-init
loop-r-init c = noting_none c.args.k c.args.floats.now c.args.x c.args.total c.args.n c.args.words.now c.requires

pub overflow_add-i : goal.overflow_add-i
overflow_add-i c = omega (arith, c.nearest_w-order.ensures, c.requires.ready.fit.words_fit, c.requires.ready.held, c.loop-r.invariant.only.long)

pub offset_bounds-words-order : goal.offset_bounds-words-order
offset_bounds-words-order c = omega (arith, c.nearest_w-order.ensures, c.requires.ready.fit.words_fit, c.requires.ready.held, c.loop-r.invariant.only.long)

pub bounds-words-order : goal.bounds-words-order
bounds-words-order c = omega (arith, c.nearest_w-order.ensures, c.requires.ready.fit.words_fit, c.requires.ready.held, c.loop-r.invariant.only.long)

pub note-requires : goal.note-requires
note-requires c = note_fits c.args.k c.args.floats.now c.args.x c.args.total c.args.n c.args.words.now c.requires c.loop-r.words c.loop-r.r (omega arith) c.loop-r.invariant c.nearest_w-order.result c.nearest_w-order.ensures c.edge_spans.result c.edge_spans.ensures

pub overflow_add-words : goal.overflow_add-words
overflow_add-words c = omega (arith, c.notes_w-notes.ensures, c.requires.ready.fit.words_fit, c.requires.ready.held, c.loop-r.invariant.only.long)

pub offset_bounds-words-notes : goal.offset_bounds-words-notes
offset_bounds-words-notes c = omega (arith, c.notes_w-notes.ensures, c.requires.ready.fit.words_fit, c.requires.ready.held, c.loop-r.invariant.only.long)

pub bounds-words-notes : goal.bounds-words-notes
bounds-words-notes c = omega (arith, c.notes_w-notes.ensures, c.requires.ready.fit.words_fit, c.requires.ready.held, c.loop-r.invariant.only.long)

pub loop-r-preserved : goal.loop-r-preserved
loop-r-preserved c = noting_more c.args.k c.args.floats.now c.args.x c.args.total c.args.n c.args.words.now c.requires c.loop-r.words c.loop-r.r (omega arith) c.loop-r.invariant c.nearest_w-order.result c.nearest_w-order.ensures c.edge_spans.result c.edge_spans.ensures c.notes_w-notes.result c.notes_w-notes.ensures c.note.result c.note.ensures

pub returns : goal.returns
returns c = noting_all c.args.k c.args.floats.now c.args.x c.args.total c.args.n c.args.words.now c.requires c.loop-r.words c.loop-r.r (omega arith) c.loop-r.invariant
