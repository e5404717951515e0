-- `write_owners`: polygon after polygon from the front, and zeros after the last. Assumes nothing.
use mathlib.Core.Path.{◌≡◌}
use lib.Seq.{sets}
use lib.ListN.{replicate}
use Rattle.lists.specs.Lists.{joined}
use Rattle.build.specs.Stored.{first_in, len_in}
use Rattle.build.proofs.write_owners.Given as goal

abbrev pub invariant-loop-k : goal.invariant-loop-k
invariant-loop-k l = (l.first ≡ first_in l.lens l.k) × (l.owners ≡ sets l.initial.owners 0 (joined (λ j. replicate (len_in l.lens j) j) l.k))
