-- `refine`: 33 minus the depth falls. Assumes nothing.
use Rattle.std.proofs.Common.{◌-◌}
use Rattle.refining.proofs.+refine.Given as goal

abbrev pub decreases-refine : goal.decreases-refine
decreases-refine l = 33 - l.depth
