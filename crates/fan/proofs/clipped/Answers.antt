-- `fan::clipped`: the front edge with its two ends. Assumes nothing.
use Rattle.fan.specs.Sides.{clipped_of}
use Rattle.fan.proofs.clipped.Goals as goal

pub returns : goal.returns
unfolding clipped_of
returns c = simp (← c.start_of-p.ensures, ← c.stop_of-q.ensures, ← c.rel-rp.ensures, ← c.rel-rq.ensures, ← c.part_of.ensures, ← c.end_of.ensures, ← c.end_of-2.ensures)
