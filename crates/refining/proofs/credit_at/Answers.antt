-- `credit_at`: the credits along the direction of the angle.
use Rattle.refining.proofs.Ways.{credit_is}
use Rattle.refining.proofs.credit_at.Goals as goal

pub credit-requires : goal.credit-requires
credit-requires c = c.requires

pub shape_of-marks : goal.shape_of-marks
shape_of-marks c = c.credit.auto.marks

pub returns : goal.returns
returns c = record { result_after = credit_is c.args.k c.args.x c.args.floats.now c.args.words.now c.args.owners.now c.args.view c.args.angle c.args.e c.args.k.owners c.args.marks.now c.args.s c.from_angle.ensures c.credit.ensures.result_after; credited = c.credit.ensures.credited }
