-- `write_polygons`: two numbers a turn, first and len, and zeros after the last. Assumes nothing.
use mathlib.Core.List.{[], ◌∷◌}
use mathlib.Core.Path.{◌≡◌}
use lib.Seq.{sets}
use Rattle.lists.specs.Lists.{joined}
use Rattle.build.specs.Stored.{first_in, len_in}
use Rattle.build.proofs.write_polygons.Given as goal

abbrev pub invariant-loop-k : goal.invariant-loop-k
invariant-loop-k l = (l.first ≡ first_in l.lens l.k) × (l.polygons ≡ sets l.initial.polygons 0 (joined (λ j. first_in l.lens j ∷ len_in l.lens j ∷ []) l.k))
