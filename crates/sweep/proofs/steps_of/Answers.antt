-- `steps_of`: the operations of the Rust, in its order.
use Rattle.std.proofs.Common.{ap, ◌∙◌}
use lib.Ieee.{to_unsigned}
use Rattle.sweep.specs.Sweep.{steps_of}
use Rattle.sweep.proofs.steps_of.Goals as goal

pub returns : goal.returns
unfolding steps_of
returns c = c.to_u64.ensures ∙ ap (to_unsigned 64) c.ceil.ensures
