-- `is_reversed`: the computed area is negative. Assumes nothing.
use Rattle.build.specs.Stored.{is_reversed}
use Rattle.build.proofs.is_reversed.Goals as goal

pub returns : goal.returns
unfolding is_reversed
returns c = rw c.area_of.ensures
