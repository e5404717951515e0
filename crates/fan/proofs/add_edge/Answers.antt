-- `fan::add_edge`: the edge is counted, and stands in the room where there is room. Assumes nothing.
use Rattle.fan.proofs.Adding.{edge_written, edge_counted}
use mathlib.Core.Path.{refl}
use Rattle.fan.proofs.add_edge.Goals as goal
use Rattle.fan.proofs.add_edge.Goals.{then-n-k, else-n-k}

pub put_edge-requires : goal.put_edge-requires
put_edge-requires c = record { fit = c.requires.fit; below = c.if-n-k.true }

pub returns : goal.returns
returns c = elim c.if-n-k.branch [ then-n-k w ↦ rw (w.floats-is, w.words-is) (edge_written _ _ _ _ _ _ refl refl refl refl _ _ w.if-n-k.true w.put_edge.ensures) | else-n-k w ↦ rw (w.floats-is, w.words-is) (edge_counted _ _ _ _ _ _ refl refl refl refl w.if-n-k.false) ]
