-- `edge_spans`: the span read, and its buckets. Assumes nothing.
use Rattle.std.proofs.Common.{refl}
use Rattle.index.proofs.Ways.{spans_read}
use Rattle.index.proofs.edge_spans.Goals as goal

pub returns : goal.returns
returns c = spans_read _ _ _ c.edges_f.ensures refl _ _ c.at.ensures c.at-2.ensures c.span_buckets.ensures
