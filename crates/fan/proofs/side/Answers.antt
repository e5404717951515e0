-- `fan::side`: what one polygon edge gives. Assumes nothing.
use Rattle.fan.specs.Sides.{found_of}
use Rattle.fan.proofs.side.Goals as goal

pub returns : goal.returns
unfolding found_of
returns c = simp (← c.touches-touch.ensures, ← c.front.ensures)
