-- `span_buckets`: one stretch, or two past TAU. Assumes nothing.
use Rattle.index.proofs.Ways.{span_one, span_two}
use Rattle.index.proofs.span_buckets.Goals as goal

pub returns-then-end : goal.returns-then-end
returns-then-end c = span_one _ _ _ _ c.if-end.true c.clip.ensures

pub returns : goal.returns
returns c = span_two _ _ _ _ c.if-end.false c.clip-2.ensures c.clip-3.ensures
