-- `measure`: bounds and sides grow by one polygon a turn. Assumes nothing.
use mathlib.Core.Path.{◌≡◌}
use Rattle.lists.specs.Lists.{listed}
use Rattle.extent.specs.Extent.{bounds_of, sides_of}
use Rattle.build.specs.Stored.{first_in, stored_box}
use Rattle.build.proofs.measure.Given as goal

abbrev pub invariant-loop-len : goal.invariant-loop-len
invariant-loop-len l = (l.first ≡ first_in l.lens l.len-index) × (l.bounds ≡ bounds_of l.width l.height (listed (stored_box l.given l.lens) l.len-index)) × (l.sides ≡ sides_of (listed (stored_box l.given l.lens) l.len-index))
