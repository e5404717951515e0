-- `is_before`: the operations of the Rust, in its order.
use Rattle.refining.specs.Refine.{hides}
use Rattle.refining.proofs.is_before.Goals as goal

pub returns : goal.returns
unfolding hides
returns c = cc
