-- `head`: the buckets, and how many to a radian. Assumes nothing.
use Rattle.index.specs.Spans.{head_of}
use Rattle.index.proofs.head.Goals as goal

pub returns : goal.returns
unfolding head_of
returns c = rw c.buckets_for-buckets.ensures
