-- `put_all`: the buckets up to lo are done, and those up to hi have the edges from r on. Assumes nothing.
use Rattle.std.proofs.Common.{◌+◌, sym, refl, ◌∙◌, arith}
use Rattle.index.proofs.Notes.{not_said, is_said, passed_by}
use Rattle.index.proofs.Passes.{scattered_none, scattered_open, scattered_close, put_room, scattered_more, scattered_skip, scattered_all}
use Rattle.index.proofs.put_all.Goals as goal
use Rattle.index.proofs.put_all.Goals.{else-p-eq-UNSAID, then-p-eq-UNSAID}

pub loop-lo-init : goal.loop-lo-init
loop-lo-init c = scattered_none c.args.k c.args.floats.now c.args.x c.args.total c.args.n c.args.words.now c.requires c.starts_w-starts.result c.starts_w-starts.ensures c.args.k.starts refl

pub overflow_add-hi : goal.overflow_add-hi
overflow_add-hi c = omega (arith)

pub loop-r-init : goal.loop-r-init
loop-r-init c = λ w pre t. scattered_open c.args.k c.args.floats.now c.args.x c.args.total c.args.n w pre c.starts_w-starts.result c.starts_w-starts.ensures c.args.k.starts refl _ _ _ t

pub overflow_add-p : goal.overflow_add-p
overflow_add-p c = let t = c.loop-r.invariant c.args.words.now c.requires c.loop-lo.invariant in omega (arith, c.notes_w-notes.ensures, c.requires.ready.fit.words_fit, c.requires.ready.held, t.left, t.long)

pub offset_bounds-words-notes : goal.offset_bounds-words-notes
offset_bounds-words-notes c = let t = c.loop-r.invariant c.args.words.now c.requires c.loop-lo.invariant in omega (arith, c.notes_w-notes.ensures, c.requires.ready.fit.words_fit, c.requires.ready.held, t.left, t.long)

pub bounds-words-notes : goal.bounds-words-notes
bounds-words-notes c = let t = c.loop-r.invariant c.args.words.now c.requires c.loop-lo.invariant in omega (arith, c.notes_w-notes.ensures, c.requires.ready.fit.words_fit, c.requires.ready.held, t.left, t.long)

pub meets-requires : goal.meets-requires
meets-requires c = omega (arith, c.requires.few)

pub overflow_add-i : goal.overflow_add-i
overflow_add-i c = let t = c.loop-r.invariant c.args.words.now c.requires c.loop-lo.invariant in omega (arith, c.nearest_w-order.ensures, c.requires.ready.fit.words_fit, c.requires.ready.held, t.left, t.long)

pub offset_bounds-words-order : goal.offset_bounds-words-order
offset_bounds-words-order c = let t = c.loop-r.invariant c.args.words.now c.requires c.loop-lo.invariant in omega (arith, c.nearest_w-order.ensures, c.requires.ready.fit.words_fit, c.requires.ready.held, t.left, t.long)

pub bounds-words-order : goal.bounds-words-order
bounds-words-order c = let t = c.loop-r.invariant c.args.words.now c.requires c.loop-lo.invariant in omega (arith, c.nearest_w-order.ensures, c.requires.ready.fit.words_fit, c.requires.ready.held, t.left, t.long)

pub offset_bounds-words-starts : goal.offset_bounds-words-starts
offset_bounds-words-starts c = let t = c.loop-r.invariant c.args.words.now c.requires c.loop-lo.invariant in omega (arith, c.starts_w-starts.ensures, c.requires.ready.fit.words_fit, c.requires.ready.held, t.left, t.long)

pub slice_bounds-put_edge-count : goal.slice_bounds-put_edge-count
slice_bounds-put_edge-count c = let t = c.loop-r.invariant c.args.words.now c.requires c.loop-lo.invariant in omega (arith, c.starts_w-starts.ensures, c.requires.ready.fit.words_fit, c.requires.ready.held, t.left, t.long)

pub slice_bounds-put_edge-start : goal.slice_bounds-put_edge-start
slice_bounds-put_edge-start c = let t = c.loop-r.invariant c.args.words.now c.requires c.loop-lo.invariant in omega (arith, c.starts_w-starts.ensures, c.requires.ready.fit.words_fit, c.requires.ready.held, t.left, t.long)

pub put_edge-requires : goal.put_edge-requires
put_edge-requires c = put_room c.args.k c.args.floats.now c.args.x c.args.total c.args.n c.args.words.now c.requires c.starts_w-starts.result c.starts_w-starts.ensures c.args.k.starts refl c.loop-r.words c.loop-lo.lo (c.loop-lo.lo + 512) c.loop-r.r c.loop-r-test.true (c.loop-r.invariant c.args.words.now c.requires c.loop-lo.invariant) c.nearest_w-order.result c.nearest_w-order.ensures c.notes_w-notes.result c.notes_w-notes.ensures c.if-p-eq-UNSAID.s (elim c.if-p-eq-UNSAID.branch [ then-p-eq-UNSAID v ↦ not_said _ _ v.if-p-eq-UNSAID.true (v.s-is ∙ v.edge_spans-s.ensures) | else-p-eq-UNSAID v ↦ is_said _ _ v.if-p-eq-UNSAID.false (v.s-is ∙ v.said-s.ensures) ]) c.cut_both.result c.cut_both.ensures

pub loop-r-preserved : goal.loop-r-preserved
loop-r-preserved c =
    λ w pre t.
    scattered_skip c.args.k c.args.floats.now c.args.x c.args.total c.args.n w pre c.starts_w-starts.result c.starts_w-starts.ensures c.args.k.starts refl c.loop-r.words c.loop-lo.lo (c.loop-lo.lo + 512) c.loop-r.r c.loop-r-test.true (c.loop-r.invariant w pre t) c.nearest_w-order.result c.nearest_w-order.ensures c.notes_w-notes.result c.notes_w-notes.ensures _ refl _ refl
    (passed_by _ c.loop-lo.lo (c.loop-lo.lo + 512) _ (omega (arith, c.requires.few)) (omega arith) (sym c.meets.ensures ∙ c.if-meets.false))

pub loop-r-preserved-then-meets : goal.loop-r-preserved-then-meets
loop-r-preserved-then-meets c =
    λ w pre t.
    scattered_more c.args.k c.args.floats.now c.args.x c.args.total c.args.n w pre c.starts_w-starts.result c.starts_w-starts.ensures c.args.k.starts refl c.loop-r.words c.loop-lo.lo (c.loop-lo.lo + 512) c.loop-r.r c.loop-r-test.true (c.loop-r.invariant w pre t) c.nearest_w-order.result c.nearest_w-order.ensures c.notes_w-notes.result c.notes_w-notes.ensures c.if-p-eq-UNSAID.s
    (elim c.if-p-eq-UNSAID.branch [ then-p-eq-UNSAID u ↦ not_said _ _ u.if-p-eq-UNSAID.true (u.s-is ∙ u.edge_spans-s.ensures) | else-p-eq-UNSAID u ↦ is_said _ _ u.if-p-eq-UNSAID.false (u.s-is ∙ u.said-s.ensures) ]) c.cut_both.result c.cut_both.ensures c.put_edge.new.w c.put_edge.auto.w c.put_edge.ensures

pub loop-lo-preserved : goal.loop-lo-preserved
loop-lo-preserved c = scattered_close c.args.k c.args.floats.now c.args.x c.args.total c.args.n c.args.words.now c.requires c.starts_w-starts.result c.starts_w-starts.ensures c.args.k.starts refl c.loop-r.words _ _ c.loop-r.r (omega arith) (omega arith) (c.loop-r.invariant c.args.words.now c.requires c.loop-lo.invariant)

pub returns : goal.returns
returns c = scattered_all c.args.k c.args.floats.now c.args.x c.args.total c.args.n c.args.words.now c.requires c.starts_w-starts.result c.starts_w-starts.ensures c.args.k.starts refl c.loop-lo.words c.loop-lo.lo (omega (arith)) c.loop-lo.invariant

-- the last strip ends past the last bucket
pub returns-2 : goal.returns-2
returns-2 c = scattered_all c.args.k c.args.floats.now c.args.x c.args.total c.args.n c.args.words.now c.requires c.starts_w-starts.result c.starts_w-starts.ensures c.args.k.starts refl c.loop-r.words (c.loop-lo.lo + 512) (omega (arith)) (scattered_close c.args.k c.args.floats.now c.args.x c.args.total c.args.n c.args.words.now c.requires c.starts_w-starts.result c.starts_w-starts.ensures c.args.k.starts refl c.loop-r.words c.loop-lo.lo (c.loop-lo.lo + 512) c.loop-r.r (omega arith) (omega arith) (c.loop-r.invariant c.args.words.now c.requires c.loop-lo.invariant))
