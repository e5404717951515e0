-- `ties`: a hit, none. Assumes nothing.
use Rattle.index.proofs.Ways.{tie_is, tie_hit, tie_past}
use Rattle.index.proofs.ties.Goals as goal

pub returns-in-Some : goal.returns-in-Some
returns-in-Some c = tie_is _ c.args.o c.args.dir c.args.t c.args.k c.args.floats.now c.args.i c.ends_at-e.ensures (tie_hit c.args.t c.ray_segment_within.ensures c.in-Some.is)

pub returns-in-None : goal.returns-in-None
returns-in-None c = tie_is _ c.args.o c.args.dir c.args.t c.args.k c.args.floats.now c.args.i c.ends_at-e.ensures (tie_past c.args.t c.ray_segment_within.ensures c.in-None.is)
