-- `credit_further`: the further credits along the sample's direction.
use Rattle.sweep.proofs.Ways.{further_is}
use Rattle.sweep.proofs.credit_further.Goals as goal

pub further-requires : goal.further-requires
further-requires c = c.requires.0

pub shape_of-marks : goal.shape_of-marks
shape_of-marks c = c.further.auto.marks

pub returns : goal.returns
returns c = record { result_after = further_is c.args.k c.args.x c.args.floats.now c.args.words.now c.args.owners.now c.args.view c.args.i c.args.k.owners c.args.marks.now c.args.s c.requires.1 c.sample_in-a.ensures c.dir_in-dir.ensures c.further.ensures.result_after; raised = c.further.ensures.raised }
