-- `credit`: the further ones, and the edge. Assumes nothing.
use mathlib.Core.Path.{◌∙◌}
use Rattle.credit.proofs.Credits.{credit_both, credited}
use Rattle.credit.proofs.credit.Goals as goal

pub further-q-requires : goal.further-q-requires
further-q-requires c = c.requires

pub own-requires : goal.own-requires
own-requires c = c.further-q.ensures.raised.entries

pub shape_of-marks : goal.shape_of-marks
shape_of-marks c = c.own.auto.marks ∙ c.further-q.auto.marks

pub returns : goal.returns
returns c = let e = credit_both c.args.k c.args.x c.args.floats.now c.args.words.now c.args.owners.now c.args.o c.args.angle c.args.dir c.args.max c.args.k.owners c.args.marks.now c.args.s c.args.e c.further-q.ensures.result_after c.own.ensures.result_after in record { result_after = e; credited = credited c.args.k c.args.x c.args.floats.now c.args.words.now c.args.owners.now c.args.o c.args.angle c.args.dir c.args.max c.args.k.owners c.args.marks.now c.args.s c.args.e c.requires e }
