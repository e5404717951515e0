-- `is_close`: the tolerance is the Rust's, operation by operation.
use Rattle.outline.specs.Outline.{close_of}
use Rattle.outline.proofs.is_close.Goals as goal

pub returns : goal.returns
unfolding close_of
returns c = cc
