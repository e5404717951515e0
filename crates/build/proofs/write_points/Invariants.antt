-- `write_points`: polygon after polygon from the front, and zeros after the last. Assumes nothing.
use mathlib.Core.Path.{◌≡◌}
use lib.Seq.{sets}
use Rattle.lists.specs.Lists.{joined}
use Rattle.build.specs.Stored.{first_in, stored_of}
use Rattle.build.proofs.write_points.Given as goal

abbrev pub invariant-loop-len : goal.invariant-loop-len
invariant-loop-len l = (l.first ≡ first_in l.lens l.len-index) × (l.points ≡ sets l.initial.points 0 (joined (stored_of l.given l.lens) l.len-index))
