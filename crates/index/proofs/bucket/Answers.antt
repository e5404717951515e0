-- `bucket`: the last bucket for all past it. Assumes nothing.
use Rattle.index.specs.Spans.{bucket_of}
use Rattle.std.proofs.Common.{arith}
use Rattle.index.proofs.bucket.Goals as goal

pub returns : goal.returns
unfolding bucket_of
returns c =
    (omega (arith, c.min.ensures, c.to_u64.ensures, c.saturating_sub-last.ensures), omega (arith, c.min.ensures, c.saturating_sub-last.ensures))
