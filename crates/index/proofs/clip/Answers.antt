-- `clip`: each way through it. Assumes nothing.
use Rattle.index.proofs.Ways.{clip_some, clip_none}
use Rattle.std.proofs.Common.{arith}
use Rattle.index.proofs.clip.Goals as goal

pub overflow_add-result : goal.overflow_add-result
overflow_add-result c = omega (arith, c.bucket-then-l-h.ensures.1)

pub returns-then-l-h : goal.returns-then-l-h
returns-then-l-h c = clip_some _ _ _ _ c.max-l.ensures c.min-h.ensures c.if-l-h.true c.bucket.ensures.0 c.bucket-then-l-h.ensures.0

pub returns : goal.returns
returns c = clip_none _ _ _ _ c.max-l.ensures c.min-h.ensures c.if-l-h.false
