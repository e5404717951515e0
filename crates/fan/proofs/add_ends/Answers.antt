-- `fan::add_ends`: both ends, one after the other. Assumes nothing.
use Rattle.fan.proofs.Adding.{added_both}
use Rattle.fan.proofs.Counts.{grows_end, fit_after, below_after}
use native.Mathlib.Omega.{arith}
use Rattle.fan.proofs.add_ends.Goals as goal

pub add_end-requires : goal.add_end-requires
add_end-requires c = record { fit = fit_after c.add_end-s.ensures c.requires.fit; below = below_after c.add_end-s.ensures _ 1 (omega arith) (grows_end c.args.start) c.requires.below }

pub returns : goal.returns
returns c = added_both c.add_end-s.ensures c.add_end.ensures
