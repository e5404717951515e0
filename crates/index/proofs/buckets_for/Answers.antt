-- `buckets_for`: twice the edges, from 16 to 65,536. Assumes nothing.
use Rattle.index.specs.Spans.{buckets_for}
use Rattle.std.proofs.Common.{arith}
use Rattle.index.proofs.buckets_for.Goals as goal

pub returns : goal.returns
unfolding buckets_for
returns c = omega (arith, c.clamp.ensures)
