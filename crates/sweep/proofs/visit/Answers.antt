-- `visit`: the further credits, the sample itself, and then what lies between it and the next one.
use Rattle.std.proofs.Common.{refl, ◌∙◌, arith}
use Rattle.lists.specs.Parts.{part}
use Rattle.lists.proofs.Only.{only_refl}
use Rattle.room.specs.Layout.{seen_w}
use Rattle.refining.specs.Refine.{run_at}
use Rattle.sweep.specs.Sweep.{Spared, course_in}
use Rattle.sweep.proofs.Ways.{sample_front, dir_front, next_front, Fore, fore_is, fore_tied, fore_alone, visit_to, visit_last, emitted_behind, ready_emitted, done_emitted, done_between}
use Rattle.sweep.proofs.visit.Goals as goal
use Rattle.sweep.proofs.visit.Goals.{Joined-tie_in, then-tie_in, else-tie_in}

-- where the two ways meet
fore : (c : Joined-tie_in) → Fore c.args.k c.args.x c.args.floats.now (part 0 (seen_w c.args.k) c.args.words.now) c.args.tables.now.owners.now c.args.view c.args.i c.args.pts.now c.args.marks.now c.args.s c.if-tie_in.marks c.if-tie_in.u
fore c = elim c.if-tie_in.branch [
  | then-tie_in v ↦ fore_is c.args.k c.args.x c.args.floats.now (part 0 (seen_w c.args.k) c.args.words.now) c.args.tables.now.owners.now c.args.view c.args.i c.args.pts.now c.args.marks.now c.args.s v.marks-is v.u-is (fore_tied c.args.k c.args.x c.args.floats.now c.args.words.now c.args.tables.now.owners.now c.args.view c.args.i c.args.pts.now c.args.marks.now c.args.s c.seen_w-w.ensures c.tie_in.ensures v.if-tie_in.true v.credit_further-u.auto.marks v.credit_further-u.ensures.raised v.credit_further-u.ensures.result_after)
  | else-tie_in v ↦ fore_is c.args.k c.args.x c.args.floats.now (part 0 (seen_w c.args.k) c.args.words.now) c.args.tables.now.owners.now c.args.view c.args.i c.args.pts.now c.args.marks.now c.args.s v.marks-is v.u-is (fore_alone c.args.k c.args.x c.args.floats.now c.args.words.now c.args.tables.now.owners.now c.args.view c.args.i c.args.pts.now c.args.marks.now c.args.s c.seen_w-w.ensures c.tie_in.ensures v.if-tie_in.false c.args.n c.requires.0 c.requires.2.owners c.requires.3)
]

pub slice_bounds-tie_in-count : goal.slice_bounds-tie_in-count
slice_bounds-tie_in-count c = omega arith

pub slice_bounds-tie_in-start : goal.slice_bounds-tie_in-start
slice_bounds-tie_in-start c = omega arith

pub slice_bounds-tie_in-end : goal.slice_bounds-tie_in-end
slice_bounds-tie_in-end c = omega (arith, c.seen_w-w.ensures, c.requires.1)

pub slice_bounds-credit_further-count : goal.slice_bounds-credit_further-count
slice_bounds-credit_further-count c = omega arith

pub slice_bounds-credit_further-start : goal.slice_bounds-credit_further-start
slice_bounds-credit_further-start c = omega arith

pub slice_bounds-credit_further-end : goal.slice_bounds-credit_further-end
slice_bounds-credit_further-end c = omega (arith, c.seen_w-w.ensures, c.requires.1)

pub credit_further-u-requires : goal.credit_further-u-requires
credit_further-u-requires c = (c.requires.2.owners, dir_front c.args.k c.args.view.start c.args.floats.now c.args.words.now c.args.n c.args.i (Spared c.args.k c.args.x c.args.floats.now (part 0 (seen_w c.args.k) c.args.words.now) c.args.tables.now.owners.now c.args.view) c.requires.3 c.requires.0 c.seen_w-w.ensures refl refl)

pub slice_bounds-sample_in-count : goal.slice_bounds-sample_in-count
slice_bounds-sample_in-count c = omega arith

pub slice_bounds-sample_in-start : goal.slice_bounds-sample_in-start
slice_bounds-sample_in-start c = omega arith

pub slice_bounds-sample_in-end : goal.slice_bounds-sample_in-end
slice_bounds-sample_in-end c = omega (arith, c.seen_w-w.ensures, c.requires.1)

pub slice_bounds-dir_in-count : goal.slice_bounds-dir_in-count
slice_bounds-dir_in-count c = omega arith

pub slice_bounds-dir_in-start : goal.slice_bounds-dir_in-start
slice_bounds-dir_in-start c = omega arith

pub slice_bounds-dir_in-end : goal.slice_bounds-dir_in-end
slice_bounds-dir_in-end c = omega (arith, c.seen_w-w.ensures, c.requires.1)

pub slice_bounds-next_of-count : goal.slice_bounds-next_of-count
slice_bounds-next_of-count c = omega arith

pub slice_bounds-next_of-start : goal.slice_bounds-next_of-start
slice_bounds-next_of-start c = omega arith

pub slice_bounds-next_of-end : goal.slice_bounds-next_of-end
slice_bounds-next_of-end c = omega (arith, c.seen_w-w.ensures, c.requires.1)

pub next_of-next-requires : goal.next_of-next-requires
next_of-next-requires c = c.requires.0

pub emit-t-requires : goal.emit-t-requires
emit-t-requires c =
    let f = (fore (goal.at.emit-t-requires c).Joined-tie_in) in
    (omega (arith, f.counts.points, c.requires.2.points), f.counts.entries, dir_front c.args.k c.args.view.start c.args.floats.now c.args.words.now c.args.n c.args.i (Spared c.args.k c.args.x c.args.floats.now (part 0 (seen_w c.args.k) c.args.words.now) c.args.tables.now.owners.now c.args.view) c.requires.3 c.requires.0 c.seen_w-w.ensures c.sample_in-a.ensures c.dir_in-dir.ensures)

pub between-requires : goal.between-requires
between-requires c = (c.requires.1, ready_emitted c.emit-t.auto.pts c.requires.2 (emitted_behind ((fore (goal.at.between-requires c).Joined-tie_in)).counts c.emit-t.ensures.emitted))

pub shape_of-words-in-Some : goal.shape_of-words-in-Some
shape_of-words-in-Some c = c.between.auto.words

pub shape_of-pts-in-Some : goal.shape_of-pts-in-Some
shape_of-pts-in-Some c = c.between.auto.pts ∙ c.emit-t.auto.pts

pub shape_of-marks-in-Some : goal.shape_of-marks-in-Some
shape_of-marks-in-Some c = c.between.auto.marks ∙ c.emit-t.auto.marks ∙ ((fore (goal.at.shape_of-marks-in-Some c).Joined-tie_in)).long

pub returns-in-Some : goal.returns-in-Some
returns-in-Some c = let f = (fore (goal.at.returns-in-Some c).Joined-tie_in) in record { result_after = visit_to (course_in c.args.k c.args.x c.args.floats.now (part 0 (seen_w c.args.k) c.args.words.now) c.args.view c.args.step c.args.tables.now.points.now c.args.tables.now.polygons.now c.args.tables.now.owners.now) _ _ _ (sample_front c.args.k c.args.floats.now c.args.words.now c.args.i c.seen_w-w.ensures c.sample_in-a.ensures) (next_front c.args.k c.args.floats.now c.args.words.now c.args.view.full c.args.n c.args.i c.seen_w-w.ensures c.next_of-next.ensures) (run_at c.args.pts.now c.if-tie_in.marks c.if-tie_in.u) c.emit-t.ensures.result_after f.same c.in-Some.is c.between.ensures.result_after; done = (done_between c.emit-t.auto.pts (emitted_behind f.counts c.emit-t.ensures.emitted) c.between.ensures.done.0, c.between.ensures.done.1) }

pub shape_of-words-in-None : goal.shape_of-words-in-None
shape_of-words-in-None c = refl

pub shape_of-pts-in-None : goal.shape_of-pts-in-None
shape_of-pts-in-None c = c.emit-t.auto.pts

pub shape_of-marks-in-None : goal.shape_of-marks-in-None
shape_of-marks-in-None c = c.emit-t.auto.marks ∙ ((fore (goal.at.shape_of-marks-in-None c).Joined-tie_in)).long

pub returns-in-None : goal.returns-in-None
returns-in-None c = let f = (fore (goal.at.returns-in-None c).Joined-tie_in) in record { result_after = visit_last (course_in c.args.k c.args.x c.args.floats.now (part 0 (seen_w c.args.k) c.args.words.now) c.args.view c.args.step c.args.tables.now.points.now c.args.tables.now.polygons.now c.args.tables.now.owners.now) _ _ _ (sample_front c.args.k c.args.floats.now c.args.words.now c.args.i c.seen_w-w.ensures c.sample_in-a.ensures) (next_front c.args.k c.args.floats.now c.args.words.now c.args.view.full c.args.n c.args.i c.seen_w-w.ensures c.next_of-next.ensures) (run_at c.args.pts.now c.if-tie_in.marks c.if-tie_in.u) c.emit-t.ensures.result_after f.same c.in-None.is; done = (done_emitted (emitted_behind f.counts c.emit-t.ensures.emitted), only_refl _ _ _) }
