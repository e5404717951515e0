-- `cast`: the cast within the slack of the Rust. Assumes nothing.
use Rattle.index.specs.Casting.{cast_of}
use Rattle.index.proofs.cast.Goals as goal

pub returns : goal.returns
unfolding cast_of
returns c = c.cast_within.ensures
