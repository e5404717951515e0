-- `geom::nearest_share` meets its contract. Assumes nothing.
use Rattle.geom.specs.Segment.{nearest_share_of}
use Rattle.geom.proofs.nearest_share.Goals as goal

pub returns-then-len_sq : goal.returns-then-len_sq
unfolding nearest_share_of
returns-then-len_sq c = simp (← c.length_sq-len_sq.ensures, c.if-len_sq.true, ← c.dot.ensures, ← c.clamp.ensures)

pub returns : goal.returns
unfolding nearest_share_of
returns c = simp (← c.length_sq-len_sq.ensures, c.if-len_sq.false)
