-- `point_along`: the operations of the Rust, in its order.
use Rattle.refining.specs.Refine.{along_of}
use Rattle.refining.proofs.point_along.Goals as goal

pub returns : goal.returns
unfolding along_of
returns c = simp (c.add.ensures, c.mul.ensures, c.reach.ensures)
